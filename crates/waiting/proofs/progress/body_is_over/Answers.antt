use Rattle.std.proofs.Common.{◌≡◌, ◌∙◌, sym, ap, subst}
use Rattle.process_tree.specs.Proc.{finished}
use Rattle.process_tree.specs.Tidy.{Tidy}
use Rattle.process_tree.specs.View.{proc_view, tree_view}
use Rattle.waiting.proofs.BodyOver.{fork-over, other-over}
use Rattle.waiting.proofs.progress.body_is_over.Goals as goal

pub returns-in-Parallel : goal.returns-in-Parallel
returns-in-Parallel c =
    fork-over c.root.result.now c.in-Parallel.branches (tree_view c.args.tree.now) c.as_slice.result.now c.is_first_over.result
    c.in-Parallel.is c.root.ensures c.as_slice.ensures.value c.is_first_over.ensures

pub returns-in_default : goal.returns-in_default
returns-in_default c =
    let same : tree_view c.args.tree.now ≡ proc_view c.root.result.now = sym c.root.ensures in
    λ tidy.
    other-over c.root.result.now (tree_view c.args.tree.now) c.is_over.result c.in_default.not-Parallel c.root.ensures
    (c.is_over.ensures.finished (subst Tidy same tidy) ∙ ap finished (sym same))
