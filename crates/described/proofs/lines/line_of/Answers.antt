-- Lines begin in order, and the line of an offset is how many begin at it or before.
use Rattle.std.proofs.Common.{ℕ, leb, ap, sym, ◌∙◌, subst, rules}
use Rattle.std.specs.List.{count_by}
use Rattle.std.specs.List.Sorted.{IsNonDecreasingBy}
use Rattle.std.proofs.lemmas.List.Sorted.{IsPartitionedBy-leb, IsPartitionPoint-from_clause}
use Rattle.described.proofs.Counted.{count_at_point, starts_rise, starts_counted}
use Rattle.described.proofs.lines.line_of.Goals as goal

pub returns : goal.returns
returns c = λ source e.
    let test = λ (s : ℕ). leb s c.args.offset in
    let rise = subst (IsNonDecreasingBy (λ (y : ℕ). y)) (sym e) (starts_rise source) in
    let point = IsPartitionPoint-from_clause test c.args.starts.now c.partition_point.result c.partition_point.ensures.partitioned
    (IsPartitionedBy-leb (λ (y : ℕ). y) c.args.starts.now c.args.offset rise) (λ a r q k. search rules) in
    sym (count_at_point test c.args.starts.now c.partition_point.result c.partition_point.ensures.bound point)
    ∙ (ap (count_by test) e ∙ starts_counted source c.args.offset)
