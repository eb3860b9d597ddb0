use Rattle.std.proofs.Common.{ℕ, drop}
use Rattle.syntax.specs.Lists.{In}
use Rattle.dependence.specs.internal.Listed.{SameLive}
use Rattle.dependence.specs.internal.Tables.{PartLinked}
use Rattle.dependence.proofs.links.unlink_all.Given as goal

-- the ticket is behind the followers of those that are left
abbrev pub invariant-loop-lead : goal.invariant-loop-lead
invariant-loop-lead l = record {
  same : SameLive l.fn.list l.list;
  linked : PartLinked l.fn.list.live l.ticket (λ (t : ℕ). In t (drop l.lead-index l.leads)) l.list.links;
}
