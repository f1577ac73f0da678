-- The facility of a refused laying is the empty one, and every list of calls on an empty facility is refused by 9, call by call.
use Prim.Native.Nat.{ℕ}
use mathlib.Core.Bool.{false}
use mathlib.Core.Path.{◌≡◌, refl, sym, ap, ◌∙◌, subst}
use native.Mathlib.Omega.{arith}
use Rattle.sheets.proofs.Refusals.{road_refusal}
use mathlib.Core.List.{List, [], ◌∷◌, map}
use Rattle.numbers.specs.Row.{Rows, ReadRow, RefusedAt}
use Rattle.sheets.specs.Layout.{road_range, range_of, count_of}
use Rattle.sheets.specs.Read.{read_road}
use Rattle.parts.specs.Allowed.{within, all_below, allowed, road_allowed}
use Rattle.door.specs.declared.Facility.{Facility}
use Rattle.door.specs.Sound.{sound}
use Rattle.facility.specs.Calls.{Reply, ReportReply, SumsReply, fresh_on, empty, laid_by, lay_of}
use Rattle.facility.specs.Ledger.{Call, Take, Run, Report, Totals, Answer, Refused}
use Rattle.facility.specs.Answers.{take_says, run_says, report_says, totals_say}
use Rattle.facility.specs.Statement.{RefusedStatement}
use Rattle.facility.proofs.Cases.{take_empty, run_empty, report_empty, totals_empty, write_empty, write_period_empty}
use Rattle.facility.proofs.Played.{Gives, took, ran, reported, totalled, Calls, stop, next, PlayedRefused}
use Rattle.facility.proofs.Told.{facility_after, facility_after_run}
use Rattle.facility.proofs.Lists.{gives_take, gives_run, gives_report, gives_totals, laid, laid_is}

-- no road has 0 segments
empty_unsound : sound empty ≡ false
unfolding sound fresh_on road_allowed allowed all_below within range_of road_range count_of
empty_unsound = refl

-- one call, and a list of them
pub nine : {f g : Facility} {c : Call} {x : Answer} → Gives f c x g → sound f ≡ false → (x ≡ Refused 9 0) × (g ≡ f)
nine (took κ f g s r gives) e =
    let is = gives ∙ take_empty _ e _ in
    (ap take_says is, sym (facility_after r g.now) ∙ ap (λ (q : Reply). q.facility) is)
nine (ran κ f g k r gives) e =
    let is = gives ∙ run_empty _ e _ in
    (ap run_says is, sym (facility_after_run r g.now) ∙ ap (λ (q : Reply). q.facility) is)
nine (reported κ f i r gives) e = (ap report_says (gives ∙ report_empty _ e _), refl)
nine (totalled κ f r gives) e = (ap totals_say (gives ∙ totals_empty _ e), refl)

pub nines : {f g : Facility} {cs : List Call} {xs : List Answer} → Calls f cs xs g → sound f ≡ false → (xs ≡ map (λ c. Refused 9 0) cs) × (g ≡ f)
nines stop e = (refl, refl)
nines (next call rest) e =
    let h = nine call e in
    let ih = nines rest (ap sound h.1 ∙ e) in
    (cc (h.0, ih.0), ih.1 ∙ h.1)

not_laid : (r : Rows) → ((laid_by r).refusal ≡ 0 → ⊥) → (laid_by r).facility ≡ empty
not_laid (ReadRow row used) n = absurd (n refl)
not_laid (RefusedAt number offset) n = refl

-- THE THEOREM for a laying that was refused
pub refused_theorem : {bytes : List ℕ} {cs : List Call} {xs : List Answer} {g : Facility} → PlayedRefused bytes cs xs g → RefusedStatement cs xs g
unfolding lay_of
refused_theorem {bytes} {g = g} p =
    let is = laid_is p.laid in
    let laid : p.reply.facility ≡ empty =
    ap (λ (q : Reply). q.facility) is ∙ not_laid (read_road bytes) (λ z. p.refused (ap (λ (q : Reply). q.refusal) is ∙ z)) in
    let h = nines p.calls (ap sound laid ∙ empty_unsound) in
    let same : g ≡ empty = h.1 ∙ laid in
    let unsound : sound g ≡ false = ap sound same ∙ empty_unsound in
    record { answered = h.0; same = same; unwritten = λ buffer at. (write_empty g unsound buffer at, write_period_empty g unsound buffer at) }

-- ---- and every list can be played on the facility of a refused laying
nine_call : (c : Call) → Gives empty c (Refused 9 0) empty
nine_call (Take bytes) =
    subst (λ (r : Reply). Gives empty (Take bytes) (take_says r) r.facility) (take_empty empty empty_unsound bytes) (gives_take empty bytes)
nine_call (Run k) = subst (λ (r : Reply). Gives empty (Run k) (run_says r) r.facility) (run_empty empty empty_unsound k) (gives_run empty k)
nine_call (Report i) =
    subst (λ (r : ReportReply). Gives empty (Report i) (report_says r) empty) (report_empty empty empty_unsound i) (gives_report empty i)
nine_call Totals = subst (λ (r : SumsReply). Gives empty Totals (totals_say r) empty) (totals_empty empty empty_unsound) (gives_totals empty)

nine_calls : (cs : List Call) → Calls empty cs (map (λ c. Refused 9 0) cs) empty
nine_calls [] = stop
nine_calls (c ∷ cs) = next (nine_call c) (nine_calls cs)

pub refused_playable : (bytes : List ℕ) (e at : ℕ) → read_road bytes ≡ RefusedAt e at → (cs : List Call)
    → PlayedRefused bytes cs (map (λ c. Refused 9 0) cs) empty
unfolding lay_of
refused_playable bytes e at r cs =
    let number : (lay_of bytes).refusal ≡ e = ap (λ (q : Rows). (laid_by q).refusal) r in
    record {
      reply = lay_of bytes;
      laid = laid bytes;
      refused = λ z. omega (arith, road_refusal bytes e at r, number);
      calls = subst (λ (f : Facility). Calls f cs (map (λ c. Refused 9 0) cs) empty) (sym (ap (λ (q : Rows). (laid_by q).facility) r)) (nine_calls cs);
    }
