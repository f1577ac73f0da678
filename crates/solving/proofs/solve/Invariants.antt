-- The loop over the sections: i answers are stored, and the sums are those of i sections.
use mathlib.Core.Path.{◌≡◌}
use mathlib.Core.List.{◌++◌, map}
use Prim.Native.Nat.{◌*◌, ◌≤◌}
use lib.ListN.{length, drop, replicate}
use Rattle.planning_sheet.specs.Listing.{first}
use Rattle.planning_sheet.specs.View.{sections_in}
use Rattle.sections.specs.Section.{outcome, no_answer}
use Rattle.solving.specs.Facility.{answer_at, totals_of}
use Rattle.solving.proofs.solve.Given as goal

abbrev pub invariant-loop-i : goal.invariant-loop-i
invariant-loop-i l =
    record {
      room : length l.answers ≡ 64;
      stored : map outcome l.answers ≡ first l.i (answer_at (sections_in l.sections) l.demands) ++ drop l.i (replicate 64 no_answer);
      summed : l.totals ≡ totals_of (sections_in l.sections) l.demands l.i;
      small : l.totals.area ≤ l.i * 211200;
    }
