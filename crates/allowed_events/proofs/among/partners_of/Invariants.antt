use Rattle.allowed_events.proofs.ByChannel.{HasBelow}
use Rattle.allowed_events.proofs.among.partners_of.Given as goal

abbrev pub invariant-loop-number : goal.invariant-loop-number
invariant-loop-number l = HasBelow l.partners l.actions l.number
