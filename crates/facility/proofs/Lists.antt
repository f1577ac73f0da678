-- THE THEOREM: `ListStatement` holds of every list of calls on every accepted road, with any arguments, in any order, refused ones and the
-- empty list included.
use Prim.Native.Nat.{ℕ, ◌≤◌, ◌<◌}
use mathlib.Core.Bool.{true}
use mathlib.Core.Path.{◌≡◌, refl, sym, ap, ◌∙◌, subst}
use mathlib.Core.List.{List, [], ◌∷◌}
use native.Mathlib.Omega.{arith}
use contract.Lifetimes.{Lfts}
use Rattle.parts.specs.Allowed.{road_allowed}
use Rattle.parts.proofs.Good.{read_road_allowed}
use Rattle.numbers.specs.Row.{Rows, ReadRow, RefusedAt}
use Rattle.sheets.specs.Read.{read_road, padded, sheet_reading}
use Rattle.sheets.proofs.Refusals.{road_refusal}
use Rattle.conditions.specs.Conditions.{segments}
use Rattle.steps.specs.Step.{stored_of}
use Rattle.steps.specs.Tallies.{tally_in}
use Rattle.door.proofs.Sound.{few_segments}
use Rattle.door.specs.declared.Facility.{Facility}
use Rattle.facility.specs.declared.Laid as code
use Rattle.door.specs.Sound.{sound}
use Rattle.facility.specs.Calls.{Reply, ReportReply, SumsReply, laid_by, lay_of, take_of, run_of, report_of, totals_of}
use Rattle.facility.specs.Ledger.{Call, Take, Run, Report, Totals, Answer, tally_of, Book, Rules, present, take_by, opened, with_taking, with_steps, with_run, answer, after_by, after, answers, book_after}
use Rattle.facility.specs.Verdicts.{Verdict, GoesOn, RefusedBy, Taking, NewSheet, SameSheet, NotTaken, run_verdict}
use Rattle.facility.specs.Statement.{ListStatement, AcceptedRoad, road_of}
use Rattle.facility.specs.Answers.{take_says, run_says, report_says, totals_say}
use Rattle.facility.specs.Claims.{Every}
use Rattle.facility.proofs.Tallies.{OnRoad, tally_at, to_the_part, each_to_the_part}
use Rattle.facility.proofs.Partfeet.{partfeet_kept_at, driven_summed, kept_driven}
use Rattle.facility.proofs.Trail.{KeptBook, kept_opened, kept_after}
use Rattle.facility.specs.View.{view}
use Rattle.facility.proofs.OneCall.{view_opened, sound_view, takes, runs, reports, sums}
use Rattle.facility.specs.Results.{replied, ran as run_reply}
use Rattle.facility.proofs.Told.{facility_after, facility_after_run, lay_told, take_told, run_told, report_replied, totals_replied}
use Rattle.facility.proofs.Played.{Slice, Lent, LentMut, lay_gives, Gives, took, ran, reported, totalled, Calls, stop, next, Laid, Played}

-- a facility that shows a book which a list of calls can lead to: what a call needs of the facility that it is made on
pub record Shows (b : Book) (f : Facility) : Type 0 where
  pub kept_book : KeptBook b
  pub is : f ≡ view b

-- ---- whatever the contracts allow is the ledger's answer, and the facility left shows the ledger's book
pub step : {f g : Facility} {c : Call} {x : Answer} {b : Book} → Gives f c x g → Shows b f → (x ≡ answer b c) × Shows (after b c) g
step {b = b} (took κ f g s r gives) at =
    let is : replied r g.now ≡ take_of (view b) s.now = gives ∙ ap (λ (f : Facility). take_of f s.now) at.is in
    let t = takes b s.now at.kept_book in
    let left = sym (facility_after r g.now) ∙ ap (λ (q : Reply). q.facility) is ∙ t.1 in
    (ap take_says is ∙ t.0, record { kept_book = kept_after b (Take s.now) at.kept_book; is = left })
step {b = b} (ran κ f g k r gives) at =
    let is : run_reply r g.now ≡ run_of (view b) k = gives ∙ ap (λ (f : Facility). run_of f k) at.is in
    let t = runs b k at.kept_book in
    let left = sym (facility_after_run r g.now) ∙ ap (λ (q : Reply). q.facility) is ∙ t.1 in
    (ap run_says is ∙ t.0, record { kept_book = kept_after b (Run k) at.kept_book; is = left })
step {b = b} (reported κ f i r gives) at = (ap report_says (gives ∙ ap (λ (f : Facility). report_of f i) at.is) ∙ reports b i at.kept_book, at)
step {b = b} (totalled κ f r gives) at = (ap totals_say (gives ∙ ap totals_of at.is) ∙ sums b at.kept_book, at)

pub only : {f g : Facility} {cs : List Call} {xs : List Answer} {b : Book} → Calls f cs xs g → Shows b f → (xs ≡ answers b cs) × Shows (book_after b cs) g
only stop at = (refl, at)
only (next call rest) at =
    let h = step call at in
    let ih = only rest h.1 in
    (cc (h.0, ih.0), ih.1)

-- ---- and the contracts do allow it
unfoldable pub slice : List ℕ → Slice
slice bytes = record { ref_ptr = (0, 0); now = bytes }

unfoldable pub lent : Facility → Lent
lent f = record { ref_ptr = (0, 0); now = f }

unfoldable pub lent_mut : Facility → LentMut
lent_mut f = record { ref_ptr = (0, 0); ghost_name = 0; now = f }

-- each call may give what its definition says
pub gives_take : (f : Facility) (bytes : List ℕ) → Gives f (Take bytes) (take_says (take_of f bytes)) (take_of f bytes).facility
unfolding slice lent_mut
gives_take f bytes =
    let q = take_of f bytes in
    let r = take_told f bytes in
    let gives : Gives f (Take bytes) (take_says (replied r.0 q.facility)) q.facility =
    took ([], ([], tt)) (lent_mut f) (lent_mut q.facility) (slice bytes) r.0 r.1 in
    subst (λ (q : Reply). Gives f (Take bytes) (take_says q) (take_of f bytes).facility) r.1 gives

pub gives_run : (f : Facility) (k : ℕ) → Gives f (Run k) (run_says (run_of f k)) (run_of f k).facility
unfolding lent_mut
gives_run f k =
    let q = run_of f k in
    let r = run_told f k in
    let gives : Gives f (Run k) (run_says (run_reply r.0 q.facility)) q.facility = ran ([], tt) (lent_mut f) (lent_mut q.facility) k r.0 r.1 in
    subst (λ (q : Reply). Gives f (Run k) (run_says q) (run_of f k).facility) r.1 gives

pub gives_report : (f : Facility) (i : ℕ) → Gives f (Report i) (report_says (report_of f i)) f
unfolding lent
gives_report f i =
    let r = report_replied f i in
    subst (λ (q : ReportReply). Gives f (Report i) (report_says q) f) r.1 (reported ([], tt) (lent f) i r.0 r.1)

pub gives_totals : (f : Facility) → Gives f Totals (totals_say (totals_of f)) f
unfolding lent
gives_totals f =
    let r = totals_replied f in
    subst (λ (q : SumsReply). Gives f Totals (totals_say q) f) r.1 (totalled ([], tt) (lent f) r.0 r.1)

some_call : (b : Book) → KeptBook b → (c : Call) → Gives (view b) c (answer b c) (view (after b c))
some_call b h (Take bytes) =
    let t = takes b bytes h in
    subst (λ (a : Answer). Gives (view b) (Take bytes) a (view (after b (Take bytes)))) t.0
    (subst (λ (f : Facility). Gives (view b) (Take bytes) (take_says (take_of (view b) bytes)) f) t.1 (gives_take (view b) bytes))
some_call b h (Run k) =
    let t = runs b k h in
    subst (λ (a : Answer). Gives (view b) (Run k) a (view (after b (Run k)))) t.0
    (subst (λ (f : Facility). Gives (view b) (Run k) (run_says (run_of (view b) k)) f) t.1 (gives_run (view b) k))
some_call b h (Report i) = subst (λ (a : Answer). Gives (view b) (Report i) a (view b)) (reports b i h) (gives_report (view b) i)
some_call b h Totals = subst (λ (a : Answer). Gives (view b) Totals a (view b)) (sums b h) (gives_totals (view b))

some : (cs : List Call) (b : Book) → KeptBook b → Calls (view b) cs (answers b cs) (view (book_after b cs))
some [] b h = stop
some (c ∷ cs) b h = next (some_call b h c) (some cs (after b c) (kept_after b c h))

-- ---- no call changes the road
road_taken : (b : Book) (t : Taking) → (with_taking b t).road ≡ b.road
road_taken b (NewSheet row used) = refl
road_taken b SameSheet = refl
road_taken b (NotTaken number offset) = refl

-- what the steps of a run leave as it was, a run does
pub run_keeps : {A : Type 0} (rules : Rules) (field : Book → A) (b : Book) (k : ℕ) → field (with_steps rules k b) ≡ field b
    → field (after_by rules b (Run k)) ≡ field b
run_keeps rules field b k e = by (run_verdict b.taken b.made k)
  where
    by : (v : Verdict) → field (with_run rules b k v) ≡ field b
    by GoesOn = e
    by (RefusedBy number) = refl

road_after : (b : Book) (c : Call) → (after b c).road ≡ b.road
road_after b (Take bytes) = road_taken b (take_by present b bytes)
road_after b (Run k) = run_keeps present (λ b. b.road) b k refl
road_after b (Report i) = refl
road_after b Totals = refl

same_road_in : (b : Book) (cs : List Call) → (book_after b cs).road ≡ b.road
same_road_in b [] = refl
same_road_in b (c ∷ cs) = same_road_in (after b c) cs ∙ road_after b c

laid_by_lem : (r : Rows) → ((e at : ℕ) → r ≡ RefusedAt e at → 1 ≤ e) → (laid_by r).refusal ≡ 0 → (row : List ℕ) × (used : ℕ) × (r ≡ ReadRow row used)
laid_by_lem (ReadRow row used) h z = (row, used, refl)
laid_by_lem (RefusedAt e at) h z = absurd (omega (arith, h e at refl))

-- laying accepts exactly the roads that the reading accepts
pub only_accepted : (κ : Lfts 1) (s : Slice) (l : code.Laid) → lay_gives κ s l → (replied l.answer l.facility).refusal ≡ 0 → AcceptedRoad s.now
unfolding lay_of
only_accepted κ s l gives z = laid_by_lem (read_road s.now) (road_refusal s.now) (sym (ap (λ (q : Reply). q.refusal) gives) ∙ z)

pub all_accepted : (κ : Lfts 1) (s : Slice) (l : code.Laid) → lay_gives κ s l → AcceptedRoad s.now → (replied l.answer l.facility).refusal ≡ 0
unfolding lay_of
all_accepted κ s l gives a = ap (λ (q : Reply). q.refusal) (gives ∙ ap laid_by a.2)

accepted_road : (bytes : List ℕ) (a : AcceptedRoad bytes) → road_of bytes ≡ padded a.0
unfolding sheet_reading
accepted_road bytes a = ap (λ (r : Rows). (sheet_reading r).row) a.2

road_allowed_lem : (bytes : List ℕ) → AcceptedRoad bytes → road_allowed (road_of bytes) ≡ true
road_allowed_lem bytes a = rw (accepted_road bytes a) (read_road_allowed bytes a.0 a.1 a.2)

laid_view : (bytes : List ℕ) → AcceptedRoad bytes → (lay_of bytes).facility ≡ view (opened (road_of bytes))
unfolding lay_of
laid_view bytes a =
    rw (accepted_road bytes a) (ap (λ (q : Rows). (laid_by q).facility) a.2 ∙ view_opened (padded a.0) (read_road_allowed bytes a.0 a.1 a.2))

-- the statement from any facility that shows the opened book of a road
pub theorem_from : {road : List ℕ} {cs : List Call} {xs : List Answer} {f g : Facility} → Shows (opened road) f → Calls f cs xs g → ListStatement road cs xs g
theorem_from {road} {cs} {xs} {f} {g} at calls =
    let h = only calls at in
    let kept = h.1.kept_book.kept in
    let shows : g ≡ view (book_after (opened road) cs) = h.1.is in
    let same = same_road_in (opened road) cs in
    let trail = (book_after (opened road) cs).trail in
    let few : segments road ≤ 64 = few_segments road (rw same at h.1.kept_book.road) in
    let on_road : Every (OnRoad road) trail = rw same at kept.on_road in
    let tallies : (i : ℕ) → i < segments road → tally_in g.tallies i ≡ tally_of trail i = λ i l. rw (shows, same) (tally_at (segments road) trail few i l) in
    record {
      answered = h.0;
      shows = shows;
      arrived = ap (λ (x : Facility). x.arrived) shows;
      left = ap (λ (x : Facility). x.left) shows;
      partsteps = ap (λ (x : Facility). x.partsteps) shows;
      stored = ap (λ (x : Facility). stored_of (segments x.road) x.state) shows ∙ rw same;
      balance = rw (shows, same) (rw same at kept.balance);
      balanced = kept.balanced;
      every_step = kept.right;
      chained = kept.chained;
      tallies = tallies;
      off_ramps = λ i l. rw (tallies i l, shows) (to_the_part road i l trail kept.right kept.chained on_road);
      apportioned = each_to_the_part road trail kept.right kept.chained on_road;
      partfeet = λ i l. rw (shows, same) (partfeet_kept_at (segments road) trail few i l);
      driven = rw (shows, same) (kept_driven road trail few on_road);
      summed_up = driven_summed road trail on_road;
      same_road = ap (λ (x : Facility). x.road) shows ∙ same;
      never_empty = ap sound shows ∙ sound_view (book_after (opened road) cs) h.1.kept_book;
    }

pub laid_is : {bytes : List ℕ} {reply : Reply} → Laid bytes reply → reply ≡ lay_of bytes
laid_is l = l.is ∙ l.lays ∙ ap lay_of l.at_bytes

-- what a play starts from: the facility that was laid shows the opened book
pub starts : {bytes : List ℕ} {cs : List Call} {xs : List Answer} {g : Facility} (p : Played bytes cs xs g) → Shows (opened (road_of bytes)) p.reply.facility
starts {bytes} p =
    let l = p.laid in
    let a : AcceptedRoad bytes = subst AcceptedRoad l.at_bytes (only_accepted l.κ l.slice l.result l.lays (sym (ap (λ (q : Reply). q.refusal) l.is) ∙ p.accepted)) in
    record {
      kept_book = kept_opened (road_of bytes) (road_allowed_lem bytes a);
      is = ap (λ (q : Reply). q.facility) (laid_is l) ∙ laid_view bytes a;
    }

-- THE THEOREM
pub theorem : {bytes : List ℕ} {cs : List Call} {xs : List Answer} {g : Facility} → Played bytes cs xs g → ListStatement (road_of bytes) cs xs g
theorem p = theorem_from (starts p) p.calls

-- and what its end goes on from
pub ends : {bytes : List ℕ} {cs : List Call} {xs : List Answer} {g : Facility} → Played bytes cs xs g → Shows (book_after (opened (road_of bytes)) cs) g
ends p = (only p.calls (starts p)).1

-- a laying may give what its definition says
pub laid : (bytes : List ℕ) → Laid bytes (lay_of bytes)
unfolding slice
laid bytes =
    let r = lay_told bytes in
    let result : code.Laid = record { facility = (lay_of bytes).facility; answer = r.0 } in
    record { κ = ([], tt); slice = slice bytes; at_bytes = refl; result = result; lays = r.1; is = sym r.1 }

-- every list can be played on every accepted road, with the ledger's answers
pub playable : (bytes : List ℕ) → AcceptedRoad bytes → (cs : List Call)
    → Played bytes cs (answers (opened (road_of bytes)) cs) (view (book_after (opened (road_of bytes)) cs))
unfolding lay_of
playable bytes a cs =
    let road = road_of bytes in
    let end = view (book_after (opened road) cs) in
    let play = some cs (opened road) (kept_opened road (road_allowed_lem bytes a)) in
    record {
      reply = lay_of bytes;
      laid = laid bytes;
      accepted = ap (λ (q : Rows). (laid_by q).refusal) a.2;
      calls = subst (λ (f : Facility). Calls f cs (answers (opened road) cs) end) (sym (laid_view bytes a)) play;
    }
