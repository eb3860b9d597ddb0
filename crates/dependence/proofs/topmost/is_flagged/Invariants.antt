use Rattle.std.proofs.Common.{ℕ, take}
use Rattle.syntax.specs.Lists.{In}
use Rattle.dependence.specs.internal.Sweeping.{FlagAt}
use Rattle.dependence.proofs.topmost.is_flagged.Given as goal

abbrev pub invariant-loop-ticket : goal.invariant-loop-ticket
invariant-loop-ticket l = (t : ℕ) → In t (take l.ticket-index l.tickets) → FlagAt l.list.live l.high l.flags t → ⊥
