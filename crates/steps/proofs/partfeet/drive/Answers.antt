-- Each segment in turn gains what left it since, × its length.
use Prim.Native.Nat.{◌*◌, ◌<◌}
use mathlib.Core.Path.{◌≡◌, refl, ap, ◌∙◌}
use native.Mathlib.Omega.{arith}
use Rattle.conditions.specs.View.{conditions_in}
use Rattle.conditions.proofs.View.{view_good}
use Rattle.steps.specs.Step.{replaced}
use Rattle.steps.specs.Since.{gained_at, driven_since}
use Rattle.steps.proofs.Driven.{gained_most, with_gain, not_yet}
use Rattle.steps.proofs.Passing.{view_same}
use Rattle.steps.proofs.Sums.{replaced_more}
use Rattle.steps.proofs.partfeet.drive.Goals as goal

pub loop-i-init : goal.loop-i-init
unfolding replaced
loop-i-init c = refl

pub overflow_add-partfeet : goal.overflow_add-partfeet
unfolding gained_at
overflow_add-partfeet c =
    let conditions = c.args.conditions.now in
    let k = conditions_in conditions in
    let below : c.loop-i.i < k.segments = omega (arith, c.loop-i-test.true, (view_same conditions).0) in
    let so_far = c.requires.partfeet_bounded c.loop-i.i below in
    let most = gained_most k c.args.before.now c.args.tallies.now (view_good conditions) c.requires.tallies_bounded c.loop-i.i below in
    let gain : c.from.result * c.from-in-loop-i.result ≡ gained_at k c.args.before.now c.args.tallies.now c.loop-i.i =
    rw (c.from.ensures, c.saturating_sub-gone.ensures, c.from-in-loop-i.ensures, c.place_at.ensures) in
    omega (arith, so_far, most, gain, not_yet k c.args.before.now c.args.tallies.now c.args.partfeet.now _ c.loop-i.i c.loop-i.invariant)

pub loop-i-preserved : goal.loop-i-preserved
unfolding gained_at
loop-i-preserved c =
    let k = conditions_in c.args.conditions.now in
    let gain : c.from.result * c.from-in-loop-i.result ≡ gained_at k c.args.before.now c.args.tallies.now c.loop-i.i =
    rw (c.from.ensures, c.saturating_sub-gone.ensures, c.from-in-loop-i.ensures, c.place_at.ensures) in
    let still = not_yet k c.args.before.now c.args.tallies.now c.args.partfeet.now _ c.loop-i.i c.loop-i.invariant in
    replaced_more (with_gain k c.args.before.now c.args.tallies.now c.args.partfeet.now) c.loop-i.i _ _ _ c.loop-i.invariant (omega (arith, gain, still))

pub returns : goal.returns
unfolding driven_since
returns c =
    let k = conditions_in c.args.conditions.now in
    let end : c.loop-i.i ≡ k.segments = omega (arith, c.loop-i-test.false, (view_same c.args.conditions.now).0) in
    c.loop-i.invariant ∙ ap (λ n. replaced (with_gain k c.args.before.now c.args.tallies.now c.args.partfeet.now) n c.args.partfeet.now) end
