use Rattle.std.proofs.Common.{◌≡◌, ◌++◌, drop, map}
use Rattle.process_tree.specs.Proc.{started}
use Rattle.process_tree.specs.View.{code_view, proc_view}
use Rattle.process_tree.proofs.proc.+start.Given as goal

abbrev pub invariant-start_all-loop-code : goal.invariant-start_all-loop-code
invariant-start_all-loop-code l =
    map proc_view l.procs.items ++ map (λ c. started (code_view c)) (drop l.code-index l.codes) ≡ map (λ c. started (code_view c)) l.codes
