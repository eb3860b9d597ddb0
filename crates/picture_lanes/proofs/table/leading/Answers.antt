use Rattle.std.proofs.Common.{rules}
use Rattle.std.proofs.lemmas.List.Sorted.{IsPartitionPoint-from_clause}
use Rattle.picture_lanes.specs.Lanes.{is_before}
use Rattle.picture_lanes.specs.declared.lane.Lane.{Lane}
use Rattle.picture_lanes.proofs.Ordered.{in_parts, leads_to}
use Rattle.picture_lanes.proofs.table.leading.Goals as goal

pub returns-clause-count : goal.returns-clause-count
returns-clause-count c =
    let parted = in_parts c.args.path.now c.args.lanes.now c.requires in
    let point =
    IsPartitionPoint-from_clause (λ (y : Lane). is_before y.path c.args.path.now) _ _ c.partition_point.ensures.partitioned parted (λ a r q k. search rules) in
    leads_to c.args.path.now c.args.lanes.now c.partition_point.result c.partition_point.ensures.bound point
