use Rattle.past.proofs.BlockLaws.{LastsUpTo}
use Rattle.past.proofs.blocks.last_followers.Given as goal

abbrev pub invariant-loop-place : goal.invariant-loop-place
invariant-loop-place l = LastsUpTo l.leads l.place l.lasts.items
