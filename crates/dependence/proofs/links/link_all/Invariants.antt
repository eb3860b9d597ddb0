use Rattle.std.proofs.Common.{ℕ, take}
use Rattle.syntax.specs.Lists.{In}
use Rattle.dependence.specs.internal.Listed.{SameLive}
use Rattle.dependence.specs.internal.Tables.{PartLinked}
use Rattle.dependence.proofs.links.link_all.Given as goal

-- the ticket is behind the followers of those that are passed
abbrev pub invariant-loop-done : goal.invariant-loop-done
invariant-loop-done l = record {
  same : SameLive l.fn.list l.list;
  linked : PartLinked l.fn.list.live l.ticket (λ (t : ℕ). In t (take l.done l.leads)) l.list.links;
}
