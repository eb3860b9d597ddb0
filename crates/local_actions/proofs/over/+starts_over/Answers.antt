-- Commands that were passed have nothing to do.
use Rattle.std.proofs.Common.{◌≡◌, ◌+◌, ◌≤◌, ◌∙◌, false, true, length, drop, map, sym, ap, subst, rules, arith}
use Rattle.std.proofs.lemmas.List.{drop_all}
use Rattle.process_tree.specs.Code.{side_by_side}
use Rattle.process_tree.specs.Proc.{started, all_started}
use Rattle.process_tree.specs.Translation.{row_of}
use Rattle.process_tree.specs.View.{code_view}
use Rattle.process_tree.specs.declared.code.Row.{Row}
use Rattle.process_tree.proofs.public.Views.{code_parallel}
use Rattle.local_actions.specs.internal.Listed.{Listing, listed}
use Rattle.local_actions.specs.internal.Over.{AllOver}
use Rattle.local_actions.proofs.public.Passing.{fresh-next, fresh-in-turn}
use Rattle.local_actions.proofs.public.Endings.{over-none, over-more, over-not, over-alike}
use Rattle.local_actions.proofs.over.+starts_over.Goals as goal

pub all_start_over-returns-then-not-starts_over : goal.all_start_over-returns-then-not-starts_over
all_start_over-returns-then-not-starts_over t c =
    let is : c.starts_over.result ≡ false = first_of (cc, search rules) in
    c.loop-code.invariant false (subst (AllOver false) (sym (fresh-next c.args.codes.now c.loop-code.code-index c.code-item.result (omega arith) c.code-item.is))
    (over-not (started (code_view c.code-item.result)) (all_started (row_of (map code_view (drop (c.loop-code.code-index + 1) c.args.codes.now)))) (λ s env. sym (c.starts_over.ensures s env) ∙ is)))

pub all_start_over-loop-code-preserved : goal.all_start_over-loop-code-preserved
all_start_over-loop-code-preserved t c =
    let is : c.starts_over.result ≡ true = first_of (cc, search rules) in
    λ b h. c.loop-code.invariant b (subst (AllOver b) (sym (fresh-next c.args.codes.now c.loop-code.code-index c.code-item.result (omega arith) c.code-item.is))
    (over-more b (started (code_view c.code-item.result)) (all_started (row_of (map code_view (drop (c.loop-code.code-index + 1) c.args.codes.now)))) (λ s env. sym (c.starts_over.ensures s env) ∙ is) h))

pub all_start_over-returns : goal.all_start_over-returns
all_start_over-returns t c =
    let past : length c.args.codes.now ≤ c.loop-code.code-index = omega arith in
    c.loop-code.invariant true (subst (λ cs. AllOver true (all_started (row_of (map code_view cs)))) (sym (drop_all c.loop-code.code-index c.args.codes.now past)) over-none)

pub starts_over-returns-in-InTurn : goal.starts_over-returns-in-InTurn
starts_over-returns-in-InTurn t c s env =
    c.all_start_over.ensures s env 0
    ∙ sym (over-alike s env 0 (all_started (row_of (map code_view c.as_slice.result.now))))
    ∙ ap (λ (l : Listing). l.over)
    (fresh-in-turn s env c.args.code.now c.in-InTurn.row c.as_slice.result.now c.in-InTurn.is (c.as_slice.ensures ∙ ap (λ (r : Row). r.codes) c.get.ensures))

pub starts_over-returns-in-SideBySide : goal.starts_over-returns-in-SideBySide
starts_over-returns-in-SideBySide t c s env =
    c.all_start_over-in-SideBySide.ensures s env 0
    ∙ ap (λ cs. (listed s env (started (side_by_side (row_of (map code_view cs))))).over) (c.as_slice-in-SideBySide.ensures ∙ ap (λ (r : Row). r.codes) c.get-in-SideBySide.ensures)
    ∙ ap (λ k. (listed s env (started k)).over) (sym (ap code_view c.in-SideBySide.is ∙ code_parallel c.in-SideBySide.row))
