use Rattle.std.proofs.Common.{ltb, rules, of_calls}
use Rattle.std.proofs.lemmas.Fn.{always_returns_same}
use Rattle.std.proofs.lemmas.List.Sorted.{IsPartitionedBy-ltb}
use Rattle.dependence.proofs.TicketLaws.{parts-point, non-decreasing}
use Rattle.dependence.proofs.tickets.count_by_halves.Goals as goal

pub returns : goal.returns
returns c =
    let parted = c.partition_point.ensures.partitioned (λ t. ltb t c.args.bound) (always_returns_same _ _ _ (λ a r f k. search (rules, of_calls)))
    (IsPartitionedBy-ltb (λ t. t) c.args.tickets.now c.args.bound (non-decreasing c.args.tickets.now c.requires)) in
    parts-point c.args.tickets.now c.args.bound c.partition_point.result c.partition_point.ensures.bound parted
