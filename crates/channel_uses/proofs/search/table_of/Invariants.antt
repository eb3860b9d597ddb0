use Rattle.channel_uses.proofs.Searches.{HoldsFirst}
use Rattle.channel_uses.proofs.search.table_of.Given as goal

abbrev pub invariant-loop-number : goal.invariant-loop-number
invariant-loop-number l = HoldsFirst l.table l.channels l.number
