use Rattle.std.proofs.Common.{rules, of_calls}
use Rattle.std.proofs.lemmas.Fn.{always_returns_same}
use Rattle.run_depths.proofs.HeldLaws.{counted-to, is_up_to, up_to-parted}
use Rattle.run_depths.proofs.held.count_to.Goals as goal

pub returns : goal.returns
returns c =
    let parted = c.partition_point.ensures.partitioned (is_up_to c.args.entries.now) (always_returns_same _ _ _ (λ a r f k. search (rules, of_calls)))
    (up_to-parted c.args.places.now c.args.entries.now c.requires) in
    counted-to c.args.places.now c.args.entries.now c.partition_point.result parted
