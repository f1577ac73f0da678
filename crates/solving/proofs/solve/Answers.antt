-- The loop over the sections: i answers are stored, and the sums are those of i sections.
use native.Mathlib.Omega.{arith}
use mathlib.Core.Path.{◌≡◌, refl, ap, ◌∙◌}
use lib.ListN.{length, get_or, length-set}
use Rattle.planning_sheet.specs.Listing.{first}
use Rattle.planning_sheet.specs.Sheet.{section_at}
use Rattle.planning_sheet.specs.View.{sections_in}
use Rattle.std.proofs.lemmas.List.{map-set}
use Rattle.planning_sheet.proofs.Listed.{padded_is, store_next}
use Rattle.sections.specs.Section.{SectionNumbers, outcome, answer_of, no_answer}
use Rattle.sections.proofs.Literals.{zero_is}
use Rattle.solving.specs.Facility.{answer_at, answers_of, added_of, totals_of}
use Rattle.solving.proofs.More.{totals_more}
use Rattle.solving.proofs.solve.Goals as goal

pub loop-i-init : goal.loop-i-init
unfolding first totals_of
loop-i-init c = record { room = refl; stored = rw c.none-answers.ensures; summed = rw zero_is; small = omega arith }

pub loop-i-preserved : goal.loop-i-preserved
unfolding answer_at
loop-i-preserved c =
    let kept = c.loop-i.invariant in
    let sections = sections_in c.args.sections.now in
    let demands = c.args.demands.now in
    let s = section_at sections c.loop-i.i in
    let o = answer_at sections demands c.loop-i.i in
    let told_is : outcome c.answer-answer.result ≡ o =
    c.answer-answer.ensures ∙ ap (λ (x : SectionNumbers). answer_of x (get_or demands c.loop-i.i 0)) c.at-section.ensures in
    let next : c.with-totals.result ≡ added_of c.loop-i.totals s o = c.with-totals.ensures.value ∙ rw (c.at-section.ensures, told_is) in
    record {
      room = simp length-set kept.room;
      stored = map-set outcome c.loop-i.answers c.loop-i.i _ ∙ store_next _ _ _ _ _ (omega arith) kept.stored told_is;
      summed = rw (totals_more sections demands c.loop-i.i, ← kept.summed) next;
      small = omega (arith, c.with-totals.ensures.small);
    }

pub returns : goal.returns
unfolding answers_of
returns c =
    let sections = sections_in c.args.sections.now in
    let all : c.loop-i.i ≡ length sections = omega arith in (
      c.loop-i.invariant.stored ∙ rw (all, padded_is 64 (length sections) (answer_at sections c.args.demands.now) no_answer),
      rw all at c.loop-i.invariant.summed,
    )
