use Rattle.std.proofs.Common.{◌≡◌, ◌∷◌, ◌++◌, drop, map}
use Rattle.process_tree.specs.Translation.{code_of, port_of}
use Rattle.process_tree.specs.View.{code_view}
use Rattle.process_tree.proofs.environment.branches_of.Given as goal

abbrev pub invariant-loop-branch : goal.invariant-loop-branch
invariant-loop-branch l =
    map code_view l.codes ++ map port_of (drop l.branch-index l.branch-items) ≡ code_of l.system.main ∷ map port_of l.branch-items
