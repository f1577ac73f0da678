-- A facility's marks at a period's end are those of the period's last step, and a period more is a row more.
use Rattle.std.proofs.Common.{◌≡◌, ℕ, zero, suc, ◌+◌, ◌-◌, ◌≤◌, ◌<◌, refl, sym, ap, ◌∙◌, true, List, length, drop, get_or, set, replicate, Ok, Err, arith}
use Rattle.refusals.specs.declared.Refused.{Refused as RefusedCall}
use Rattle.conditions.specs.Conditions.{Conditions, segments, in_force}
use Rattle.conditions.proofs.Good.{in_force_at_lem, conditions_segments}
use Rattle.steps.proofs.Sums.{length_replaced, replaced_at, replaced_beyond, replaced_is}
use Rattle.door.specs.declared.Facility.{Facility}
use Rattle.door.specs.Sound.{sound}
use Rattle.door.proofs.Sound.{few_segments}
use Rattle.running.specs.Steps.{sheet_by, conditions_on}
use Rattle.facility.specs.Calls.{done, take_of, run_of, ReportReply, reported_by, report_of, level_at}
use Rattle.facility.specs.Ledger.{Trail, Book, present, conditions_by, state_after, more_steps}
use Rattle.facility.specs.Verdicts.{GoesOn}
use Rattle.facility.proofs.Verdicts.{report_goes}
use Rattle.facility.proofs.Cases.{report_by}
use Rattle.facility.proofs.OneCall.{sound_view, in_force_view}
use Rattle.facility.proofs.Trail.{KeptBook}
use Rattle.facility.specs.View.{view}
use Rattle.study.specs.Forecast.{whole, outcome_by}
use Rattle.parts.specs.Parts.{road_globals}
use Rattle.study.specs.Shown.{TakenAt}
use Rattle.study.proofs.Periods.{turns_on, turn_sound, Turn, Start, Later, refused_by, ends}
use Rattle.overview.specs.declared.marks.Mark.{Mark}
use Rattle.overview.specs.Course.{no_mark, row_by, mark_of, row_in, rows_in, course, course_of}
use Rattle.overview.specs.View.{told, mark_at}

-- ---- a mark, by what is in force
module _ (f : Facility) (i : ℕ) (s : sound f ≡ true) (h : i < segments f.road) where
  reported : report_of f (i + 1) ≡ reported_by f (i + 1) GoesOn
  reported = report_by f s (i + 1) GoesOn (report_goes f.road (i + 1) (omega arith) (omega arith))

  mark_is : mark_at f i ≡ mark_of (conditions_on f) f.state i
  unfolding mark_at mark_of level_at in_force
  mark_is =
      let back : i + 1 - 1 ≡ i = omega arith in
      let letter : (report_of f (i + 1)).level ≡ level_at f i = ap (λ (r : ReportReply). r.level) reported ∙ ap (level_at f) back in
      rw (letter, in_force_at_lem f.road (sheet_by f.taken f.period) i h)

-- ---- a row
-- the marks of two functions that agree below the number are the same row
row_same : (g h : ℕ → Mark) (n : ℕ) → n ≤ 64 → ((i : ℕ) → i < n → g i ≡ h i) → row_by g n ≡ row_by h n
unfolding row_by
row_same g h n few e =
    replaced_is h n (replicate 64 no_mark) _ no_mark few (length_replaced g n _)
    (λ i below. replaced_at g n i _ no_mark below (omega arith) ∙ e i below) (λ i beyond. replaced_beyond g n i _ no_mark beyond)

-- the row of the facility that shows a book
row_is : (b : Book) → KeptBook b → row_by (mark_at (view b)) (segments b.road) ≡ row_by (mark_of (conditions_by present b) (state_after b.trail)) (segments b.road)
row_is b k =
    row_same _ _ (segments b.road) (few_segments b.road k.road) (λ i h.
    mark_is (view b) i (sound_view b k) h ∙ ap (λ (c : Conditions). mark_of c (state_after b.trail) i) (in_force_view b k.sheet))

-- the row of a period's steps, by what was in force in them
steps_row : (c : Conditions) (n : ℕ) (t : Trail) → row_by (mark_of c (state_after (more_steps c (suc n) t))) c.segments ≡ row_in (more_steps c (suc n) t)
unfolding row_in
steps_row c n t = refl

-- the row of the facility that shows a book right after a period's steps
row_after : (b : Book) → KeptBook b → (t : Trail) → b.trail ≡ more_steps (conditions_by present b) whole t → row_by (mark_at (view b)) (segments b.road) ≡ row_in b.trail
row_after b k t e =
    let c = conditions_by present b in
    row_is b k
    ∙ ap (λ (s : Trail). row_by (mark_of c (state_after s)) (segments b.road)) e
    ∙ ap (row_by (mark_of c (state_after (more_steps c whole t)))) (sym (conditions_segments b.road b.sheet))
    ∙ steps_row c 59 t ∙ ap row_in (sym e)

-- ---- the rows
-- the steps before a period
steps_before : (c : Conditions) (n : ℕ) (t : Trail) → drop n (more_steps c n t) ≡ t
steps_before c zero t = refl
steps_before c (suc n) t = steps_before c n t

-- a facility at a place of the study, with the rows of its periods so far
pub record Seen (bytes : List ℕ) (f : Facility) (at : ℕ) (rows : List (List Mark)) : Type 0 where
  pub turn : Turn bytes f at
  pub so_far : rows ≡ rows_in turn.book.taken turn.book.trail

-- no period, no row
pub no_rows : (bytes : List ℕ) (f : Facility) (at : ℕ) (s : Start bytes f at) → Seen bytes f at (replicate 96 (replicate 64 no_mark))
unfolding rows_in
no_rows bytes f at (turn, none) = record { turn = turn; so_far = rw none refl }

rows_one_more : (p : ℕ) (t : Trail) → rows_in (suc p) t ≡ set (rows_in p (drop whole t)) p (row_in t)
unfolding rows_in
rows_one_more p t = refl

-- a sheet at the place, taken, and its period run whole
module _ (bytes : List ℕ) (f : Facility) (at : ℕ) (rows : List (List Mark)) (s : Seen bytes f at rows) (inside : at < length bytes)
    (end : ℕ) (g : Facility) (taken-at : TakenAt bytes at (Ok end) g (take_of f (drop at bytes))) (next : Facility) (ran : done 0 next ≡ run_of g whole) where
  abbrev l : Later bytes s.turn.book next end
  l = turns_on bytes f at s.turn inside end g taken-at next ran

  abbrev before : Book
  before = s.turn.book

  abbrev after : Book
  after = l.turn.book

  last_row : row_by (mark_at next) (segments next.road) ≡ row_in after.trail
  last_row = ap (λ (g : Facility). row_by (mark_at g) (segments g.road)) l.turn.view ∙ row_after after l.turn.kept before.trail l.steps

  -- a sheet more is taken, of 96 at most, on a road of 64 segments at most
  pub one_taken : (next.taken ≡ f.taken + 1) × (next.taken ≤ 96)
  one_taken =
      let now = ap (λ (g : Facility). g.taken) l.turn.view in
      let was = ap (λ (g : Facility). g.taken) s.turn.view in
      (omega (arith, now, was, l.one_more), omega (arith, now, l.turn.kept.few))

  pub few_on_road : get_or next.road 0 0 ≤ 64
  unfolding road_globals
  few_on_road = (turn_sound bytes next end l.turn).1

  pub row_more : (row : List Mark) (k : ℕ) → row ≡ row_by (mark_at next) (get_or next.road 0 0) → k + 1 ≡ next.taken → Seen bytes next end (set rows k row)
  unfolding road_globals
  row_more row k is e =
      let count : after.taken ≡ suc before.taken = omega (arith, l.one_more) in
      let place : k ≡ before.taken = omega (arith, e, l.one_more, ap (λ (g : Facility). g.taken) l.turn.view) in
      let earlier : drop whole after.trail ≡ before.trail = rw l.steps (steps_before (conditions_by present after) whole before.trail) in
      let last = row_in after.trail in
      let were = rows_in before.taken before.trail in
      record {
        turn = l.turn;
        so_far = ap (λ (r : List (List Mark)). set r k row) s.so_far ∙ ap (set were k) (is ∙ last_row) ∙ ap (λ (n : ℕ). set were n last) place
            ∙ ap (λ (t : Trail). set (rows_in before.taken t) before.taken last) (sym earlier) ∙ sym (rows_one_more before.taken after.trail)
            ∙ ap (λ (n : ℕ). rows_in n after.trail) (sym count);
      }

-- ---- what is told
pub refused_is : (bytes : List ℕ) (e : RefusedCall) → outcome_by present bytes ≡ refused_by e → told (Err e) ≡ course_of bytes
unfolding course_of
refused_is bytes e is = sym (ap course is)

pub told_at_the_end : (bytes : List ℕ) (f : Facility) (at : ℕ) (rows : List (List Mark)) (s : Seen bytes f at rows) → length bytes ≤ at
    → told (Ok (record { road = f.road; periods = f.taken; rows = rows })) ≡ course_of bytes
unfolding course_of course
told_at_the_end bytes f at rows s h = rw (s.turn.view, s.so_far) (sym (ap course (ends bytes f at s.turn h)))
