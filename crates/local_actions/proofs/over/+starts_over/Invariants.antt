use Rattle.std.proofs.Common.{Bool, drop, map}
use Rattle.process_tree.specs.Proc.{all_started}
use Rattle.process_tree.specs.Translation.{row_of}
use Rattle.process_tree.specs.View.{code_view}
use Rattle.local_actions.specs.internal.Over.{AllOver}
use Rattle.local_actions.proofs.over.+starts_over.Given as goal

abbrev pub invariant-all_start_over-loop-code : goal.invariant-all_start_over-loop-code
invariant-all_start_over-loop-code l =
    (b : Bool) → AllOver b (all_started (row_of (map code_view (drop l.code-index l.codes)))) → AllOver b (all_started (row_of (map code_view l.codes)))
