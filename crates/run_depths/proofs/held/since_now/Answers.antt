use Rattle.std.proofs.Common.{◌≡◌, List, length, take, ap, arith, subst}
use Rattle.runs.specs.Moves.{Place}
use Rattle.run_depths.specs.internal.Held.{GreatestBefore}
use Rattle.run_depths.proofs.HeldLaws.{before-all, before-start}
use Rattle.run_depths.proofs.held.since_now.Goals as goal

pub loop-index-init : goal.loop-index-init
loop-index-init c = before-start c.args.held.now.places.items c.entries-way.result.now

pub returns : goal.returns
returns c = λ l depths holds.
    let same = c.entries-way.ensures in
    let past = c.loop-index-test.false in
    let size : length c.entries-way.result.now ≡ length c.args.place.now = ap (λ (a : Place). length a) same in
    before-all l depths c.args.held.now c.args.place.now c.loop-index.index c.loop-index.since (omega arith)
    (subst (λ (a : Place). GreatestBefore c.args.held.now.places.items (take c.loop-index.index a) c.loop-index.since) same c.loop-index.invariant) holds
