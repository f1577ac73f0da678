-- What spares a step some work, three numbers of what is in force at a segment: no rule of the manual.
use Rattle.std.specs.Prelude.{ℕ, ◌+◌, ◌-◌, ◌*◌, ◌/◌, min, leb, ltb, if◌then◌else◌}
use Rattle.conditions.specs.declared.InForce.{InForce}
use Rattle.conditions.specs.declared.Shortcuts.{Shortcuts}

-- the parts below which P is E: none where the jam is below C, else those up to Q whose room is at least C
unfoldable pub easy_below : (jam critical capacity : ℕ) → ℕ
easy_below j q c = if ltb j c then 0 else min q (j - c) + 1

-- the parts from which D is the lesser of n and C: all where the reach is at least L, else those of which C get away, C × L / reach rounded up
unfoldable pub full_from : (length reach capacity : ℕ) → ℕ
full_from l v c = if leb l v then 0 else (c * l + (v - 1)) / v

-- the reach 22 × V, the parts below which P is E, and those from which D is the lesser of n and C
unfoldable pub shortcuts_of : InForce → Shortcuts
shortcuts_of here = record {
  reach = 22 * here.speed;
  easy = easy_below here.jam here.critical here.capacity;
  full = full_from here.length (22 * here.speed) here.capacity;
}
