use Rattle.std.proofs.Common.{rules, of_calls}
use Rattle.std.proofs.lemmas.Fn.{always_returns_same}
use Rattle.run_depths.proofs.HeldLaws.{below-parted, counted-less, is_below}
use Rattle.run_depths.proofs.held.count_less.Goals as goal

pub returns : goal.returns
returns c =
    let parted = c.partition_point.ensures.partitioned (is_below c.args.entries.now) (always_returns_same _ _ _ (λ a r f k. search (rules, of_calls)))
    (below-parted c.args.places.now c.args.entries.now c.requires) in
    counted-less c.args.places.now c.args.entries.now c.partition_point.result c.partition_point.ensures.bound parted
