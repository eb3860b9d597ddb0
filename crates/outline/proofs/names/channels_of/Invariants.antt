use Rattle.std.proofs.Common.{◌≡◌, ◌++◌, drop}
use Rattle.outline.specs.Names.{channels_from}
use Rattle.outline.proofs.names.channels_of.Given as goal

abbrev pub invariant-loop-index : goal.invariant-loop-index
invariant-loop-index l = l.entries ++ channels_from l.index (drop l.index l.channels) ≡ channels_from 0 l.channels
