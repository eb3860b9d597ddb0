-- What is listed of commands before their first move.
use Rattle.std.proofs.Common.{◌≡◌, ◌+◌, ◌&&◌, map, drop, refl, sym, ap, ◌∙◌, arith, rules}
use Rattle.std.proofs.lemmas.Result.{IfOk-weaker, on_ok_weaker}
use Rattle.process_tree.specs.Proc.{started, all_started}
use Rattle.process_tree.specs.Translation.{row_of}
use Rattle.process_tree.specs.View.{code_view}
use Rattle.process_tree.specs.declared.code.Row.{Row}
use Rattle.local_actions.specs.internal.Listed.{Listing, listed_sequence, listed_parallel}
use Rattle.local_actions.specs.Walk.{added}
use Rattle.local_actions.proofs.public.OneByOne.{fresh-at, fresh-past}
use Rattle.local_actions.proofs.public.Passing.{fresh-in-turn, onwards, at-work, at-end, beside, one-open, one-over, fresh-next}
use Rattle.local_actions.proofs.fresh.+list_fresh.Goals as goal
use Rattle.local_actions.proofs.fresh.+list_fresh.Goals.{list_fresh_all-then-not-branch, list_fresh_all-else-not-branch}

pub list_fresh-returns-in-InTurn-clause-actions : goal.list_fresh-returns-in-InTurn-clause-actions
list_fresh-returns-in-InTurn-clause-actions t c =
    on_ok_weaker c.list_fresh_from.result (λ h. h ∙ ap (λ (l : Listing). added l.actions c.args.cursor.now)
    (fresh-in-turn c.args.values.now c.args.cursor.now.received c.args.code.now c.in-InTurn.row c.as_slice-in-InTurn.result.now c.in-InTurn.is
    (c.as_slice-in-InTurn.ensures ∙ ap (λ (r : Row). r.codes) c.get-in-InTurn.ensures))) c.list_fresh_from.ensures.actions

pub list_fresh-returns-in-InTurn-clause-over : goal.list_fresh-returns-in-InTurn-clause-over
list_fresh-returns-in-InTurn-clause-over t c =
    IfOk-weaker c.list_fresh_from.result _ _ (λ over h. h ∙ ap (λ (l : Listing). l.over)
    (fresh-in-turn c.args.values.now c.args.cursor.now.received c.args.code.now c.in-InTurn.row c.as_slice-in-InTurn.result.now c.in-InTurn.is
    (c.as_slice-in-InTurn.ensures ∙ ap (λ (r : Row). r.codes) c.get-in-InTurn.ensures))) c.list_fresh_from.ensures.over

pub list_fresh_all-loop-number-preserved : goal.list_fresh_all-loop-number-preserved
list_fresh_all-loop-number-preserved t c =
    let over : c.if-not-branch.over ≡ (c.loop-number.over && c.in_ok-list_fresh_branch.field-0) =
    elim c.if-not-branch.branch [
      | list_fresh_all-then-not-branch w ↦ one-open c.loop-number.over c.in_ok-list_fresh_branch.field-0 c.if-not-branch.over (first_of (cc, search rules)) w.over-is
      | list_fresh_all-else-not-branch w ↦ one-over c.loop-number.over c.in_ok-list_fresh_branch.field-0 c.if-not-branch.over (first_of (cc, search rules)) w.over-is
    ] in
    beside c.args.values.now c.args.cursor.now c.loop-number.cursor c.list_fresh_branch.new.cursor c.loop-number.over c.if-not-branch.over c.in_ok-list_fresh_branch.field-0
    c.loop-number.number (c.loop-number.number + 1) (started (code_view c.index-codes-number.result)) (all_started (row_of (map code_view (drop c.loop-number.number c.args.codes.now))))
    (all_started (row_of (map code_view (drop (c.loop-number.number + 1) c.args.codes.now)))) (listed_parallel c.args.values.now c.args.cursor.now.received 0 (all_started (row_of (map code_view c.args.codes.now))))
    c.loop-number.invariant refl (fresh-next c.args.codes.now c.loop-number.number c.index-codes-number.result (omega arith) c.index-codes-number.is)
    c.in_ok-list_fresh_branch.ensures.actions c.in_ok-list_fresh_branch.ensures.over over

pub list_fresh_from-returns-then-not-branch-clause-actions : goal.list_fresh_from-returns-then-not-branch-clause-actions
list_fresh_from-returns-then-not-branch-clause-actions t c =
    (at-work c.args.values.now c.args.cursor.now c.children.cursor c.list_fresh_child.new.cursor c.children.number c.args.from (all_started (row_of (map code_view c.args.codes.now)))
    (started (code_view c.index-codes-number.result)) c.in_ok-list_fresh_child.field-0 c.children.invariant.0 c.children.invariant.1
    (fresh-at c.args.codes.now c.children.number c.index-codes-number.result (omega arith) c.index-codes-number.is)
    c.in_ok-list_fresh_child.ensures.actions c.in_ok-list_fresh_child.ensures.over (first_of (cc, search rules))).actions

pub list_fresh_from-returns-then-not-branch-clause-over : goal.list_fresh_from-returns-then-not-branch-clause-over
list_fresh_from-returns-then-not-branch-clause-over t c =
    (at-work c.args.values.now c.args.cursor.now c.children.cursor c.list_fresh_child.new.cursor c.children.number c.args.from (all_started (row_of (map code_view c.args.codes.now)))
    (started (code_view c.index-codes-number.result)) c.in_ok-list_fresh_child.field-0 c.children.invariant.0 c.children.invariant.1
    (fresh-at c.args.codes.now c.children.number c.index-codes-number.result (omega arith) c.index-codes-number.is)
    c.in_ok-list_fresh_child.ensures.actions c.in_ok-list_fresh_child.ensures.over (first_of (cc, search rules))).over

pub list_fresh_from-children-preserved : goal.list_fresh_from-children-preserved
list_fresh_from-children-preserved t c =
    let next = onwards c.args.values.now c.args.cursor.now c.children.cursor c.list_fresh_child.new.cursor c.children.number (c.children.number + 1) c.args.from
    (all_started (row_of (map code_view c.args.codes.now)))
    (started (code_view c.index-codes-number.result)) c.in_ok-list_fresh_child.field-0 c.children.invariant.0 c.children.invariant.1
    (fresh-at c.args.codes.now c.children.number c.index-codes-number.result (omega arith) c.index-codes-number.is)
    c.in_ok-list_fresh_child.ensures.actions c.in_ok-list_fresh_child.ensures.over (first_of (cc, search rules)) (omega arith) in
    (next.as_it_was, next.rest)

pub list_fresh_from-returns-clause-actions : goal.list_fresh_from-returns-clause-actions
list_fresh_from-returns-clause-actions t c =
    (at-end c.args.values.now c.args.cursor.now c.children.cursor (listed_sequence c.args.values.now c.args.cursor.now.received c.args.from 0 (all_started (row_of (map code_view c.args.codes.now))))
    c.children.invariant.0 (sym c.children.invariant.1 ∙ fresh-past c.args.values.now c.args.cursor.now.received c.args.codes.now c.children.number 0 (omega arith))).0

pub list_fresh_from-returns-clause-over : goal.list_fresh_from-returns-clause-over
list_fresh_from-returns-clause-over t c =
    (at-end c.args.values.now c.args.cursor.now c.children.cursor (listed_sequence c.args.values.now c.args.cursor.now.received c.args.from 0 (all_started (row_of (map code_view c.args.codes.now))))
    c.children.invariant.0 (sym c.children.invariant.1 ∙ fresh-past c.args.values.now c.args.cursor.now.received c.args.codes.now c.children.number 0 (omega arith))).1
