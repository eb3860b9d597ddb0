-- The branches of a parallel begin together.
use Rattle.std.proofs.Common.{◌∷◌, map, sym, ap, ◌∙◌, arith}
use Rattle.process_tree.specs.Proc.{started}
use Rattle.process_tree.specs.View.{code_view, proc_view}
use Rattle.process_tree.specs.declared.code.Code.{Code}
use Rattle.process_tree.specs.declared.code.Row.{Row}
use Rattle.process_tree.proofs.OneMore.{one-more-seen}
use Rattle.process_tree.proofs.public.Views.{parallel_started}
use Rattle.process_tree.proofs.proc.+start.Goals as goal

pub start-returns-in_ok-procs-in-SideBySide : goal.start-returns-in_ok-procs-in-SideBySide
start-returns-in_ok-procs-in-SideBySide t c =
    parallel_started c.in_ok-procs-in-SideBySide.procs c.in-SideBySide.row c.args.code.now c.in-SideBySide.is
    (c.in_ok-procs-in-SideBySide.ensures
    ∙ ap (map (λ (x : Code). started (code_view x))) c.as_slice.ensures
    ∙ ap (λ (r : Row). map (λ (x : Code). started (code_view x)) r.codes) c.get.ensures)

pub start_all-loop-code-preserved : goal.start_all-loop-code-preserved
start_all-loop-code-preserved t c =
    one-more-seen proc_view (map (λ (x : Code). started (code_view x))) c.loop-code.procs.items c.push.new.self.items c.in_ok-start.field-0 c.args.codes.now c.loop-code.code-index c.code-item.result
    (omega arith) c.code-item.is (λ rest. ap (λ p. p ∷ map (λ (x : Code). started (code_view x)) rest) (sym c.in_ok-start.ensures)) c.in_ok-push.ensures.items c.loop-code.invariant
