-- A study on its way: the facility shows a book of the ledger, and what the study comes to is what it comes to from that book on.
use Prim.Native.Nat.{ℕ, zero, suc, ◌+◌, ◌-◌, ◌≤◌, ◌<◌}
use mathlib.Core.Bool.{Bool, true, false, ◌&&◌}
use mathlib.Core.Path.{◌≡◌, refl, sym, ap, subst, ◌∙◌}
use mathlib.Core.List.{List}
use native.Mathlib.Omega.{arith}
use lib.ListN.{length, drop, length-drop}
use lib.Dec.{ltb, eqb}
use borrow.Author.Tests.{lt-ltb, le-ltb, eq-eqb, ne_eqb, eqb-true}
use Rattle.std.specs.Prelude.{if◌then◌else◌, Result, Ok, Err}
use Rattle.refusals.specs.declared.Refusal.{Refusal}
use Rattle.refusals.specs.declared.Refused.{Refused as RefusedCall}
use Rattle.refusals.specs.Numbers.{refusal_number}
use Rattle.numbers.proofs.Refusals.{refusal_named}
use Rattle.parts.proofs.Good.{good_road, read_road_allowed}
use Rattle.numbers.specs.Row.{Rows, ReadRow, RefusedAt}
use Rattle.sheets.specs.Read.{read_road, read_period, padded}
use Rattle.sheets.proofs.Refusals.{road_refusal}
use Rattle.conditions.specs.Conditions.{segments}
use Rattle.door.specs.declared.Facility.{Facility}
use Rattle.door.specs.Sound.{sound}
use Rattle.facility.specs.Calls.{Reply, refused, done, taken_by, laid_by, lay_of, take_of, run_of}
use Rattle.facility.specs.Results.{replied}
use Rattle.facility.specs.Ledger.{Take, Run, Answer, Refused, Taken, Ran, Book, Rules, present, conditions_by, take_by, more_steps, opened, taken_as, with_taking, with_steps, ran_as, with_run, answer_by, after_by, answer, after}
use Rattle.facility.specs.Verdicts.{Verdict, GoesOn, Taking, NewSheet, SameSheet, NotTaken, as_read, unfinished, run_verdict}
use Rattle.facility.proofs.Verdicts.{take_cases, run_goes}
use Rattle.facility.specs.View.{view}
use Rattle.facility.specs.Answers.{take_says, run_says}
use Rattle.facility.proofs.Trail.{KeptBook, kept_opened, kept_after}
use Rattle.facility.proofs.OneCall.{view_opened, sound_view, takes, runs}
use Rattle.facility.proofs.Lists.{run_keeps}
use Rattle.study.specs.Forecast.{Outcome, Ended, RefusedStudy, after_sheet, whole, whole_period, periods, on_road, outcome_by}
use Rattle.study.specs.Shown.{TakenAt}
use Rattle.sheets.proofs.Within.{RowWithin, road_within, period_within}

-- ---- a taking stays within its bytes: what it used, and the offset of its refusal
ReplyWithin : ℕ → Reply → Type 0
ReplyWithin m r = (r.used ≤ m) × (r.offset ≤ m)

reading_within : (m : ℕ) (f : Facility) (r : Rows) → RowWithin m r → ReplyWithin m (taken_by f (as_read r))
unfolding ReplyWithin
reading_within m f (ReadRow row used) h = (h, omega arith)
reading_within m f (RefusedAt number offset) h = (omega arith, h)

unless_within : (m : ℕ) (f : Facility) (t : Bool) (r : Reply) → ReplyWithin m r → ReplyWithin m (if t then r else refused f 9 0)
unfolding ReplyWithin
unless_within m f true r h = h
unless_within m f false r h = (omega arith, omega arith)

take_within : (f : Facility) (bytes : List ℕ) → ReplyWithin (length bytes) (take_of f bytes)
unfolding take_of ReplyWithin
take_within f bytes =
    let m = length bytes in
    let none : (0 ≤ m) × (0 ≤ m) = (omega arith, omega arith) in
    unless_within m f (sound f) _
    (take_cases (read_period f.road) f.taken f.made bytes (λ t. ReplyWithin m (taken_by f t)) none none none (λ idle room some. none)
    (λ idle room. reading_within m f _ (period_within f.road bytes)))

-- a taking at a place of the bytes, by its places in them
pub taken_end : (f : Facility) (bytes : List ℕ) (at used : ℕ) (next : Facility) → at ≤ length bytes → done used next ≡ take_of f (drop at bytes)
    → TakenAt bytes at (Ok (at + used)) next (take_of f (drop at bytes))
unfolding ReplyWithin
taken_end f bytes at used next h e =
    let within = (rw (← e) at (take_within f (drop at bytes))).0 in
    let less : at + used - at ≡ used = omega arith in
    (omega arith, omega (arith, within, length-drop at bytes, h), rw less e)

pub refused_place : (f : Facility) (bytes : List ℕ) (at number offset : ℕ) (next : Facility) → refused next number offset ≡ take_of f (drop at bytes)
    → (at ≤ at + offset) × (refused next number (at + offset - at) ≡ take_of f (drop at bytes))
refused_place f bytes at number offset next e = let less : at + offset - at ≡ offset = omega arith in (omega arith, rw less e)

pub place_within : (f : Facility) (bytes : List ℕ) (at number offset : ℕ) (next : Facility) → at ≤ length bytes → refused next number offset ≡ take_of f (drop at bytes)
    → at + offset ≤ length bytes
unfolding ReplyWithin
place_within f bytes at number offset next h e = omega (arith, (rw (← e) at (take_within f (drop at bytes))).1, length-drop at bytes, h)

-- ---- the ledger's taking and running
-- a sheet that is taken is counted, with no step made under it
Begun : Book → Book → Type 0
Begun b next = (next.taken ≡ b.taken + 1) × (next.made ≡ 0)

begun_by : (b : Book) (t : Taking) (used : ℕ) → taken_as t ≡ Taken used → Begun b (with_taking b t)
unfolding Begun
begun_by b (NewSheet row n) used e = (refl, refl)
begun_by b SameSheet used e = (refl, refl)
begun_by b (NotTaken number offset) used e = absurd (let z : ◌≡◌ {A = ℕ} 0 1 = cc in omega arith)

and_false : (t : Bool) → (t && false) ≡ false
and_false true = refl
and_false false = refl

pub finished : (taken made : ℕ) → 60 ≤ made → unfinished taken made ≡ false
unfolding unfinished
finished taken made h = rw (le-ltb made 60 h) (and_false (ltb 0 taken))

-- a taking makes no step
trail_kept : (b : Book) (t : Taking) → (with_taking b t).trail ≡ b.trail
trail_kept b (NewSheet row n) = refl
trail_kept b SameSheet = refl
trail_kept b (NotTaken number offset) = refl

module _ (rules : Rules) (b : Book) (s : List ℕ) (used : ℕ) (e : answer_by rules b (Take s) ≡ Taken used) where
  begun : Begun b (after_by rules b (Take s))
  begun = begun_by b (take_by rules b s) used e

  -- "runs every period whole": right after a sheet is taken, a run of the period's steps is never refused
  pub goes_whole : run_verdict (after_by rules b (Take s)).taken (after_by rules b (Take s)).made whole ≡ GoesOn
  unfolding Begun
  goes_whole = run_goes _ _ whole (omega arith) (omega arith) (λ z. omega (arith, begun.0)) (omega (arith, begun.1))

  pub run_whole : answer_by rules (after_by rules b (Take s)) (Run whole) ≡ Ran
  run_whole = ap ran_as goes_whole

  -- the period's steps are made on the trail as it was, under what is then in force
  whole_trail : (whole_period rules b s).trail ≡ more_steps (conditions_by rules (whole_period rules b s)) whole b.trail
  whole_trail =
      let next = after_by rules b (Take s) in
      let made : whole_period rules b s ≡ with_steps rules whole next = ap (with_run rules next whole) goes_whole in
      rw made (ap (more_steps (conditions_by rules next) whole) (trail_kept b (take_by rules b s)))

  -- and after it no step is left, so that no taking of a study is refused by 12
  run_out : unfinished (whole_period rules b s).taken (whole_period rules b s).made ≡ false
  run_out =
      let next = after_by rules b (Take s) in
      ap (λ (v : Verdict). unfinished (with_run rules next whole v).taken (with_run rules next whole v).made) goes_whole
      ∙ finished next.taken (next.made + whole) (omega arith)

-- ---- a study on its way, at a place of its bytes
pub record Turn (bytes : List ℕ) (f : Facility) (at : ℕ) : Type 0 where
  pub book : Book
  pub kept : KeptBook book
  pub view : f ≡ view book
  pub idle : unfinished book.taken book.made ≡ false
  pub most : ℕ
  pub count : most + book.taken ≡ 97
  pub up_to : at ≤ length bytes
  pub rest : outcome_by present bytes ≡ periods present most book bytes at

-- one that starts, with no sheet taken
abbrev pub Start : (bytes : List ℕ) → Facility → ℕ → Type 0
Start bytes f at = (t : Turn bytes f at) × (t.book.taken ≡ 0)

-- one a period later: a sheet more is taken, and its steps are made on the trail as it was
pub record Later (bytes : List ℕ) (before : Book) (f : Facility) (at : ℕ) : Type 0 where
  pub turn : Turn bytes f at
  pub one_more : turn.book.taken ≡ before.taken + 1
  pub steps : turn.book.trail ≡ more_steps (conditions_by present turn.book) whole before.trail

laid_by_lem : (bytes : List ℕ) (r : Rows) → read_road bytes ≡ r → (laid : Reply) → laid ≡ laid_by r → laid.refusal ≡ 0 → Start bytes laid.facility laid.used
unfolding outcome_by unfinished
laid_by_lem bytes (ReadRow row used) e laid is z =
    let end : laid.used ≡ used = ap (λ (q : Reply). q.used) is in (
      record {
        book = opened (padded row);
        kept = kept_opened (padded row) (read_road_allowed bytes row used e);
        view = ap (λ (q : Reply). q.facility) is ∙ view_opened (padded row) (read_road_allowed bytes row used e);
        idle = refl;
        most = 97;
        count = refl;
        up_to = omega (arith, rw e at (road_within bytes));
        rest = ap (on_road present bytes) e ∙ ap (periods present 97 (opened (padded row)) bytes) (sym end);
      },
      refl,
    )
laid_by_lem bytes (RefusedAt number offset) e laid is z = absurd (omega (arith, road_refusal bytes number offset e, ap (λ (q : Reply). q.refusal) is))

-- a road that was laid starts the study; one that was not is its answer
begins : (bytes : List ℕ) (laid : Reply) → laid ≡ lay_of bytes → laid.refusal ≡ 0 → Start bytes laid.facility laid.used
unfolding lay_of
begins bytes laid is z = laid_by_lem bytes (read_road bytes) refl laid is z

not_laid_by : (bytes : List ℕ) (r : Rows) (laid : Reply) → laid ≡ laid_by r → (laid.refusal ≡ 0 → ⊥)
    → on_road present bytes r ≡ RefusedStudy laid.refusal laid.offset
not_laid_by bytes (ReadRow row used) laid is n = absurd (n (ap (λ (q : Reply). q.refusal) is))
not_laid_by bytes (RefusedAt number offset) laid is n = ap (λ (q : Reply). RefusedStudy q.refusal q.offset) (sym is)

pub begins_at : (bytes : List ℕ) (answer : Result ℕ RefusedCall) (f : Facility) (at : ℕ) → answer ≡ Ok at → replied answer f ≡ lay_of bytes → Start bytes f at
begins_at bytes (Ok n) f at e h = let same : n ≡ at = cc in subst (Start bytes f) same (begins bytes (done n f) h refl)
begins_at bytes (Err r) f at e h = cc

-- what a refused study comes to
abbrev pub refused_by : RefusedCall → Outcome
refused_by e = RefusedStudy (refusal_number e.refusal) e.offset

pub not_laid : (bytes : List ℕ) (answer : Result ℕ RefusedCall) (f : Facility) (e : RefusedCall) → answer ≡ Err e → replied answer f ≡ lay_of bytes
    → outcome_by present bytes ≡ refused_by e
unfolding lay_of outcome_by
not_laid bytes (Ok n) f e h k = cc
not_laid bytes (Err r) f e h k =
    let same : r ≡ e = cc in
    not_laid_by bytes (read_road bytes) (refused f (refusal_number r.refusal) r.offset) k (λ z. omega (arith, refusal_named r.refusal)) ∙ ap refused_by same

-- a sheet more is looked at while the bytes go on, and none where they end
pub sheet_by_lem : (rules : Rules) (most : ℕ) (b : Book) (bytes : List ℕ) (at : ℕ) → 0 < most → at < length bytes
    → periods rules most b bytes at
    ≡ after_sheet (answer_by rules b (Take (drop at bytes))) at (periods rules (most - 1) (whole_period rules b (drop at bytes)) bytes)
unfolding periods
sheet_by_lem rules zero b bytes at p h = absurd (omega arith)
sheet_by_lem rules (suc most) b bytes at p h =
    let less : most ≡ suc most - 1 = omega arith in
    let said = answer_by rules b (Take (drop at bytes)) in
    let next = whole_period rules b (drop at bytes) in
    let looks : periods rules (suc most) b bytes at ≡ after_sheet said at (periods rules most next bytes) = rw (lt-ltb at (length bytes) h) in
    looks ∙ ap (λ (m : ℕ). after_sheet said at (periods rules m next bytes)) less

pub end_by : (rules : Rules) (most : ℕ) (b : Book) (bytes : List ℕ) (at : ℕ) → length bytes ≤ at → periods rules most b bytes at ≡ Ended b
unfolding periods
end_by rules zero b bytes at h = refl
end_by rules (suc most) b bytes at h = rw (le-ltb at (length bytes) h)

ran_by_test : (t : Bool) (r : Reply) → eqb r.refusal 0 ≡ t → (if t then Ran else Refused r.refusal r.offset) ≡ Ran → r.refusal ≡ 0
ran_by_test true r e h = eqb-true r.refusal 0 e
ran_by_test false r e h = cc

says_ran : (r : Reply) → run_says r ≡ Ran → r.refusal ≡ 0
says_ran r h = ran_by_test (eqb r.refusal 0) r refl h

module _ (bytes : List ℕ) (f : Facility) (at : ℕ) (p : Turn bytes f at) where
  pub turn_sound : (sound f ≡ true) × (segments f.road ≤ 64)
  turn_sound = rw p.view (sound_view p.book p.kept, (good_road p.book.road p.kept.road).segments.1)

  -- the end of the file
  pub ends : length bytes ≤ at → outcome_by present bytes ≡ Ended p.book
  ends h = p.rest ∙ end_by present p.most p.book bytes at h

  -- a sheet that the bytes from the place on give
  module _ (inside : at < length bytes) (r : Reply) (gave : r ≡ take_of f (drop at bytes)) where
    took : r ≡ take_of (view p.book) (drop at bytes)
    took = gave ∙ ap (λ (g : Facility). take_of g (drop at bytes)) p.view

    said : take_says r ≡ answer p.book (Take (drop at bytes))
    said = ap take_says took ∙ (takes p.book (drop at bytes) p.kept).0

    turns : outcome_by present bytes ≡ after_sheet (take_says r) at (periods present (p.most - 1) (whole_period present p.book (drop at bytes)) bytes)
    turns =
        p.rest ∙ sheet_by_lem present p.most p.book bytes at (omega (arith, p.count, p.kept.few)) inside
        ∙ ap (λ (a : Answer). after_sheet a at (periods present (p.most - 1) (whole_period present p.book (drop at bytes)) bytes)) (sym said)

    module _ (n : r.refusal ≡ 0 → ⊥) where
      -- a refused sheet: its place
      refuses : outcome_by present bytes ≡ RefusedStudy r.refusal (at + r.offset)
      refuses = rw (ne_eqb r.refusal 0 n) at turns

    module _ (z : r.refusal ≡ 0) where
      taken : answer p.book (Take (drop at bytes)) ≡ Taken r.used
      taken = sym (rw (eq-eqb r.refusal 0 z) at said)

      next_within : at + r.used ≤ length bytes
      unfolding ReplyWithin
      next_within = omega (arith, (rw (← gave) at (take_within f (drop at bytes))).0, length-drop at bytes)

      -- the period run whole
      module _ (ran : Reply) (runs-it : ran ≡ run_of r.facility whole) where
        view_next : ran.facility ≡ view (whole_period present p.book (drop at bytes))
        view_next =
            let b = after p.book (Take (drop at bytes)) in
            let begins : r.facility ≡ view b = ap (λ (q : Reply). q.facility) took ∙ (takes p.book (drop at bytes) p.kept).1 in
            ap (λ (q : Reply). q.facility) (runs-it ∙ ap (λ (g : Facility). run_of g whole) begins)
            ∙ (runs b whole (kept_after p.book (Take (drop at bytes)) p.kept)).1

        taken_next : (whole_period present p.book (drop at bytes)).taken ≡ p.book.taken + 1
        unfolding Begun
        taken_next =
            run_keeps present (λ b. b.taken) (after p.book (Take (drop at bytes))) whole refl ∙ (begun present p.book (drop at bytes) r.used taken).0

        -- it is never refused
        not_refused : ran.refusal ≡ 0
        not_refused =
            let b = after p.book (Take (drop at bytes)) in
            let begins : r.facility ≡ view b = ap (λ (q : Reply). q.facility) took ∙ (takes p.book (drop at bytes) p.kept).1 in
            let says : run_says ran ≡ Ran =
            ap run_says (runs-it ∙ ap (λ (g : Facility). run_of g whole) begins)
            ∙ (runs b whole (kept_after p.book (Take (drop at bytes)) p.kept)).0 ∙ run_whole present p.book (drop at bytes) r.used taken in
            says_ran ran says

        pub one_taken : ran.facility.taken ≡ f.taken + 1
        one_taken =
            ap (λ (g : Facility). g.taken) view_next ∙ taken_next ∙ ap (λ (g : Facility). g.taken + 1) (sym p.view)

        pub goes_on : Later bytes p.book ran.facility (at + r.used)
        goes_on = record {
          turn = record {
            book = whole_period present p.book (drop at bytes);
            kept = kept_after (after p.book (Take (drop at bytes))) (Run whole) (kept_after p.book (Take (drop at bytes)) p.kept);
            view = view_next;
            idle = run_out present p.book (drop at bytes) r.used taken;
            most = p.most - 1;
            count = omega (arith, p.count, p.kept.few, taken_next);
            up_to = next_within;
            rest = rw (eq-eqb r.refusal 0 z) at turns;
          };
          one_more = taken_next;
          steps = whole_trail present p.book (drop at bytes) r.used taken;
        }

  pub few_taken : f.taken ≤ 96
  few_taken = rw p.view p.kept.few

  -- ---- by the places in the bytes
  module _ (inside : at < length bytes) where
    pub refuses_at : (e : RefusedCall) (g : Facility) → TakenAt bytes at (Err e) g (take_of f (drop at bytes)) → outcome_by present bytes ≡ refused_by e
    refuses_at e g (h, gave) =
        let back : at + (e.offset - at) ≡ e.offset = omega arith in
        refuses inside (refused g (refusal_number e.refusal) (e.offset - at)) gave (λ z. omega (arith, refusal_named e.refusal))
        ∙ ap (RefusedStudy (refusal_number e.refusal)) back

    module _ (end : ℕ) (g : Facility) (taken-at : TakenAt bytes at (Ok end) g (take_of f (drop at bytes))) (next : Facility) where
      pub taken_more : done 0 next ≡ run_of g whole → next.taken ≡ f.taken + 1
      taken_more e = one_taken inside (done (end - at) g) taken-at.2 refl (done 0 next) e

      pub turns_on : done 0 next ≡ run_of g whole → Later bytes p.book next end
      turns_on e =
          let back : at + (end - at) ≡ end = omega (arith, taken-at.0) in
          subst (Later bytes p.book next) back (goes_on inside (done (end - at) g) taken-at.2 refl (done 0 next) e)

      -- the period's run is never refused
      pub runs_whole : (r : Refusal) → refused next (refusal_number r) 0 ≡ run_of g whole → ⊥
      runs_whole r e = omega (arith, refusal_named r, not_refused inside (done (end - at) g) taken-at.2 refl (refused next (refusal_number r) 0) e)
