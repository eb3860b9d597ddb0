-- Whether the body of a tree is over.
-- No reader has to believe it: `StandsLike` says so of what is left of the tree.
use Rattle.std.specs.Prelude.{Bool, true}
use Rattle.process_tree.specs.Proc.{Procs, no_procs, proc, finished}

-- of branches, whether the first is finished, if there is one
abbrev pub first_finished : Procs → Bool
first_finished no_procs = true
first_finished (proc p ps) = finished p
