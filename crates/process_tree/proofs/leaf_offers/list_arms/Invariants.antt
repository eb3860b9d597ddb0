use Rattle.std.proofs.Common.{◌≡◌, drop}
use Rattle.process_tree.specs.internal.Listed.{opens_from, added}
use Rattle.process_tree.proofs.leaf_offers.list_arms.Given as goal

abbrev pub invariant-loop-arm : goal.invariant-loop-arm
invariant-loop-arm l = added (opens_from l.arm (drop l.arm l.channels)) l.finder ≡ added (opens_from 0 l.channels) l.initial.finder
