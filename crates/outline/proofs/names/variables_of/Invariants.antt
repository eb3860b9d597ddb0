use Rattle.std.proofs.Common.{◌≡◌, ◌++◌, drop}
use Rattle.outline.specs.Names.{variables_from}
use Rattle.outline.proofs.names.variables_of.Given as goal

abbrev pub invariant-loop-index : goal.invariant-loop-index
invariant-loop-index l = l.entries ++ variables_from l.index (drop l.index l.variables) ≡ variables_from 0 l.variables
