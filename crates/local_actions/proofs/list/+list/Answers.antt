-- What is listed of processes.
use Rattle.std.proofs.Common.{◌≡◌, ◌+◌, ◌&&◌, min, length, map, drop, refl, sym, ap, ◌∙◌, arith, rules}
use Rattle.std.proofs.lemmas.Result.{IfOk-weaker, on_ok_weaker}
use Rattle.process_tree.specs.Proc.{all_started}
use Rattle.process_tree.specs.Tidy.{last_moved}
use Rattle.process_tree.specs.Translation.{row_of}
use Rattle.process_tree.specs.internal.Received.{puts_guard}
use Rattle.process_tree.specs.View.{code_view, proc_view, procs_of, repeat_view, decide_view, await_view}
use Rattle.local_actions.specs.internal.Listed.{Listing, again_at, listed, listed_sequence, listed_parallel}
use Rattle.local_actions.specs.Walk.{Walk, added}
use Rattle.local_actions.specs.internal.Walk.{lists}
use Rattle.process_tree.proofs.public.Forms.{once-seen, sender-seen, loop-seen, test-seen, arms-seen, sequence-seen, parallel-seen, turn-seen, opened-seen, done-as, told-as}
use Rattle.local_actions.proofs.public.Begun.{begun-row, row-at, row-past}
use Rattle.local_actions.proofs.public.Passing.{onwards, at-work, beside, one-open, one-over, proc-next, taken-actions, opened-over, turn-again, arm-close, repeat-guard}
use Rattle.local_actions.proofs.list.+list.Goals as goal
use Rattle.local_actions.proofs.list.+list.Goals.{list_parallel-then-not-branch, list_parallel-else-not-branch}

pub list_parallel-loop-number-preserved : goal.list_parallel-loop-number-preserved
list_parallel-loop-number-preserved t c =
    let over : c.if-not-branch.over ≡ (c.loop-number.over && c.in_ok-list_branch.field-0) =
    elim c.if-not-branch.branch [
      | list_parallel-then-not-branch w ↦ one-open c.loop-number.over c.in_ok-list_branch.field-0 c.if-not-branch.over (first_of (cc, search rules)) w.over-is
      | list_parallel-else-not-branch w ↦ one-over c.loop-number.over c.in_ok-list_branch.field-0 c.if-not-branch.over (first_of (cc, search rules)) w.over-is
    ] in
    beside c.args.values.now c.args.cursor.now c.loop-number.cursor c.list_branch.new.cursor c.loop-number.over c.if-not-branch.over c.in_ok-list_branch.field-0
    c.loop-number.number (c.loop-number.number + 1) (proc_view c.index-procs-number.result) (procs_of (map proc_view (drop c.loop-number.number c.args.procs.now)))
    (procs_of (map proc_view (drop (c.loop-number.number + 1) c.args.procs.now))) (listed_parallel c.args.values.now c.args.cursor.now.received 0 (procs_of (map proc_view c.args.procs.now)))
    c.loop-number.invariant refl (proc-next c.args.procs.now c.loop-number.number c.index-procs-number.result (omega arith) c.index-procs-number.is)
    c.in_ok-list_branch.ensures.actions c.in_ok-list_branch.ensures.over over

pub list_sequence-returns-then-not-branch-clause-actions : goal.list_sequence-returns-then-not-branch-clause-actions
list_sequence-returns-then-not-branch-clause-actions t c =
    let e : c.min-end.result ≡ min (length c.args.begun.now) (length c.args.row.now.codes) = first_of (omega arith, cc, search rules) in
    (at-work c.args.values.now c.args.cursor.now c.children.cursor c.list_child.new.cursor c.children.number (last_moved (begun-row c.args.begun.now c.args.row.now)) (begun-row c.args.begun.now c.args.row.now)
    (proc_view c.index-begun-number.result) c.in_ok-list_child.field-0 c.children.invariant.0 c.children.invariant.1
    (row-at c.args.begun.now c.args.row.now c.children.number c.index-begun-number.result (omega (arith, e)) (omega (arith, e)) c.index-begun-number.is)
    c.in_ok-list_child.ensures.actions c.in_ok-list_child.ensures.over (first_of (cc, search rules))).actions

pub list_sequence-returns-then-not-branch-clause-over : goal.list_sequence-returns-then-not-branch-clause-over
list_sequence-returns-then-not-branch-clause-over t c =
    let e : c.min-end.result ≡ min (length c.args.begun.now) (length c.args.row.now.codes) = first_of (omega arith, cc, search rules) in
    (at-work c.args.values.now c.args.cursor.now c.children.cursor c.list_child.new.cursor c.children.number (last_moved (begun-row c.args.begun.now c.args.row.now)) (begun-row c.args.begun.now c.args.row.now)
    (proc_view c.index-begun-number.result) c.in_ok-list_child.field-0 c.children.invariant.0 c.children.invariant.1
    (row-at c.args.begun.now c.args.row.now c.children.number c.index-begun-number.result (omega (arith, e)) (omega (arith, e)) c.index-begun-number.is)
    c.in_ok-list_child.ensures.actions c.in_ok-list_child.ensures.over (first_of (cc, search rules))).over

pub list_sequence-children-preserved : goal.list_sequence-children-preserved
list_sequence-children-preserved t c =
    let e : c.min-end.result ≡ min (length c.args.begun.now) (length c.args.row.now.codes) = first_of (omega arith, cc, search rules) in
    let next = onwards c.args.values.now c.args.cursor.now c.children.cursor c.list_child.new.cursor c.children.number (c.children.number + 1)
    (last_moved (begun-row c.args.begun.now c.args.row.now)) (begun-row c.args.begun.now c.args.row.now)
    (proc_view c.index-begun-number.result) c.in_ok-list_child.field-0 c.children.invariant.0 c.children.invariant.1
    (row-at c.args.begun.now c.args.row.now c.children.number c.index-begun-number.result (omega (arith, e)) (omega (arith, e)) c.index-begun-number.is)
    c.in_ok-list_child.ensures.actions c.in_ok-list_child.ensures.over (first_of (cc, search rules)) (omega arith) in
    (next.as_it_was, next.rest)

pub list_sequence-returns-clause-actions : goal.list_sequence-returns-clause-actions
list_sequence-returns-clause-actions t c =
    let e : c.min-end.result ≡ min (length c.args.begun.now) (length c.args.row.now.codes) = first_of (omega arith, cc, search rules) in
    let codes = ap (λ cs. all_started (row_of (map code_view cs))) c.as_slice.ensures in
    on_ok_weaker c.list_fresh_from.result (λ h. h
    ∙ ap (λ ps. added (listed_sequence c.args.values.now c.children.cursor.received c.children.number 0 ps).actions c.children.cursor) codes
    ∙ ap (λ (w : Walk). added (listed_sequence c.args.values.now w.received c.children.number 0 (all_started (row_of (map code_view c.args.row.now.codes)))).actions w) c.children.invariant.0
    ∙ ap (λ (l : Listing). added l.actions c.args.cursor.now)
    (sym (row-past c.args.values.now c.args.cursor.now.received c.args.begun.now c.args.row.now c.children.number (omega (arith, e))) ∙ c.children.invariant.1)) c.list_fresh_from.ensures.actions

pub list_sequence-returns-clause-over : goal.list_sequence-returns-clause-over
list_sequence-returns-clause-over t c =
    let e : c.min-end.result ≡ min (length c.args.begun.now) (length c.args.row.now.codes) = first_of (omega arith, cc, search rules) in
    let codes = ap (λ cs. all_started (row_of (map code_view cs))) c.as_slice.ensures in
    IfOk-weaker c.list_fresh_from.result _ _ (λ over h. h
    ∙ ap (λ ps. (listed_sequence c.args.values.now c.children.cursor.received c.children.number 0 ps).over) codes
    ∙ ap (λ (w : Walk). (listed_sequence c.args.values.now w.received c.children.number 0 (all_started (row_of (map code_view c.args.row.now.codes)))).over) c.children.invariant.0
    ∙ ap (λ (l : Listing). l.over)
    (sym (row-past c.args.values.now c.args.cursor.now.received c.args.begun.now c.args.row.now c.children.number (omega (arith, e))) ∙ c.children.invariant.1)) c.list_fresh_from.ensures.over

pub list_tested-returns-in-Took-clause-actions : goal.list_tested-returns-in-Took-clause-actions
list_tested-returns-in-Took-clause-actions t c =
    on_ok_weaker c.list_child.result (λ h. taken-actions c.args.values.now (decide_view c.args.decide.now).0 (decide_view c.args.decide.now).1 _ c.args.tested.now c.in-Took.body c.deref.result.now
    c.args.cursor.now c.list_child.new.cursor c.in-Took.is c.deref.ensures h) c.list_child.ensures.actions

pub list_gate-returns-in-Opened-clause-over : goal.list_gate-returns-in-Opened-clause-over
list_gate-returns-in-Opened-clause-over t c =
    IfOk-weaker c.list_opened.result _ _ (λ o h. opened-over c.args.values.now c.args.cursor.now.received (await_view c.args.waiting.now).0 (await_view c.args.waiting.now).1 c.in-Opened.channel c.in-Opened.value
    c.in-Opened.over o c.args.gate.now c.in-Opened.body c.deref.result.now c.in-Opened.is c.deref.ensures h)
    (c.list_opened.ensures.over (await_view c.args.waiting.now).0 (await_view c.args.waiting.now).1)

pub list_turn-returns-in_ok-list_again-clause-actions : goal.list_turn-returns-in_ok-list_again-clause-actions
list_turn-returns-in_ok-list_again-clause-actions t c =
    turn-again c.args.values.now c.args.cursor.now c.list_child.new.cursor c.list_again.new.cursor c.args.turn c.in_ok-next.next c.in_ok-body_of_turn.field-0
    (repeat_view c.args.repeat.now).0 (repeat_view c.args.repeat.now).1 (proc_view c.args.body.now) c.args.over c.in_ok-list_child.field-0 c.if-over.false
    c.in_ok-list_child.ensures.actions c.in_ok-body_of_turn.ensures.number c.in_ok-list_child.ensures.over c.if-branch.true
    (c.in_ok-list_again.ensures
    ∙ ap (λ g. added (again_at c.args.values.now c.in_ok-next.next (puts_guard c.list_child.new.cursor.received g)) c.list_child.new.cursor) (sym (repeat-guard c.args.repeat.now)))
    c.in_ok-next.ensures.next

pub list_opened-returns-in_ok-list_close-clause-actions : goal.list_opened-returns-in_ok-list_close-clause-actions
list_opened-returns-in_ok-list_close-clause-actions t c = λ ds cs.
    arm-close c.args.values.now c.args.cursor.now c.list_arm.new.cursor c.list_close.new.cursor ds cs c.args.channel c.args.value (proc_view c.args.body.now) c.args.over
    c.in_ok-list_arm.field-0 c.if-over.false c.in_ok-list_arm.ensures.actions c.in_ok-list_arm.ensures.over c.if-branch.true c.in_ok-list_close.ensures

pub list-returns-in-Once-clause-actions : goal.list-returns-in-Once-clause-actions
list-returns-in-Once-clause-actions t c =
    done-as (λ p. lists c.args.values.now p c.args.cursor.now) _ _ _ c.list_unmade.result (once-seen c.args.proc.now _ c.get.result.now _ c.in-Once.is c.get.ensures) c.list_unmade.ensures.actions

pub list-returns-in-Once-clause-over : goal.list-returns-in-Once-clause-over
list-returns-in-Once-clause-over t c =
    told-as (λ p. (listed c.args.values.now c.args.cursor.now.received p).over) _ _ c.list_unmade.result (once-seen c.args.proc.now _ c.get.result.now _ c.in-Once.is c.get.ensures) c.list_unmade.ensures.over

pub list-returns-in-Sender-clause-actions : goal.list-returns-in-Sender-clause-actions
list-returns-in-Sender-clause-actions t c =
    done-as (λ p. lists c.args.values.now p c.args.cursor.now) _ _ _ c.list_phase.result (sender-seen c.args.proc.now _ c.get-in-Sender.result.now _ c.in-Sender.is c.get-in-Sender.ensures) c.list_phase.ensures.actions

pub list-returns-in-Sender-clause-over : goal.list-returns-in-Sender-clause-over
list-returns-in-Sender-clause-over t c =
    told-as (λ p. (listed c.args.values.now c.args.cursor.now.received p).over) _ _ c.list_phase.result (sender-seen c.args.proc.now _ c.get-in-Sender.result.now _ c.in-Sender.is c.get-in-Sender.ensures) c.list_phase.ensures.over

pub list-returns-in-Loop-clause-actions : goal.list-returns-in-Loop-clause-actions
list-returns-in-Loop-clause-actions t c =
    done-as (λ p. lists c.args.values.now p c.args.cursor.now) _ _ _ c.list_loop.result (loop-seen c.args.proc.now _ c.get-in-Loop.result.now _ _ c.in-Loop.is c.get-in-Loop.ensures refl) c.list_loop.ensures.actions

pub list-returns-in-Loop-clause-over : goal.list-returns-in-Loop-clause-over
list-returns-in-Loop-clause-over t c =
    told-as (λ p. (listed c.args.values.now c.args.cursor.now.received p).over) _ _ c.list_loop.result (loop-seen c.args.proc.now _ c.get-in-Loop.result.now _ _ c.in-Loop.is c.get-in-Loop.ensures refl) c.list_loop.ensures.over

pub list-returns-in-Test-clause-actions : goal.list-returns-in-Test-clause-actions
list-returns-in-Test-clause-actions t c =
    done-as (λ p. lists c.args.values.now p c.args.cursor.now) _ _ _ c.list_tested.result (test-seen c.args.proc.now _ c.get-in-Test.result.now _ _ c.in-Test.is c.get-in-Test.ensures refl) c.list_tested.ensures.actions

pub list-returns-in-Test-clause-over : goal.list-returns-in-Test-clause-over
list-returns-in-Test-clause-over t c =
    told-as (λ p. (listed c.args.values.now c.args.cursor.now.received p).over) _ _ c.list_tested.result (test-seen c.args.proc.now _ c.get-in-Test.result.now _ _ c.in-Test.is c.get-in-Test.ensures refl) c.list_tested.ensures.over

pub list-returns-in-Arms-clause-actions : goal.list-returns-in-Arms-clause-actions
list-returns-in-Arms-clause-actions t c =
    done-as (λ p. lists c.args.values.now p c.args.cursor.now) _ _ _ c.list_gate.result (arms-seen c.args.proc.now _ c.get-in-Arms.result.now _ _ c.in-Arms.is c.get-in-Arms.ensures refl) c.list_gate.ensures.actions

pub list-returns-in-Arms-clause-over : goal.list-returns-in-Arms-clause-over
list-returns-in-Arms-clause-over t c =
    told-as (λ p. (listed c.args.values.now c.args.cursor.now.received p).over) _ _ c.list_gate.result (arms-seen c.args.proc.now _ c.get-in-Arms.result.now _ _ c.in-Arms.is c.get-in-Arms.ensures refl) c.list_gate.ensures.over

pub list-returns-in-Sequence-clause-actions : goal.list-returns-in-Sequence-clause-actions
list-returns-in-Sequence-clause-actions t c =
    done-as (λ p. lists c.args.values.now p c.args.cursor.now) _ _ _ c.list_sequence.result (sequence-seen c.args.proc.now _ c.get-in-Sequence.result.now _ c.as_slice.result.now c.in-Sequence.is c.get-in-Sequence.ensures c.as_slice.ensures.value) c.list_sequence.ensures.actions

pub list-returns-in-Sequence-clause-over : goal.list-returns-in-Sequence-clause-over
list-returns-in-Sequence-clause-over t c =
    told-as (λ p. (listed c.args.values.now c.args.cursor.now.received p).over) _ _ c.list_sequence.result (sequence-seen c.args.proc.now _ c.get-in-Sequence.result.now _ c.as_slice.result.now c.in-Sequence.is c.get-in-Sequence.ensures c.as_slice.ensures.value) c.list_sequence.ensures.over

pub list-returns-in-Parallel-clause-actions : goal.list-returns-in-Parallel-clause-actions
list-returns-in-Parallel-clause-actions t c =
    done-as (λ p. lists c.args.values.now p c.args.cursor.now) _ _ _ c.list_parallel.result (parallel-seen c.args.proc.now _ c.as_slice-in-Parallel.result.now c.in-Parallel.is c.as_slice-in-Parallel.ensures.value) c.list_parallel.ensures.actions

pub list-returns-in-Parallel-clause-over : goal.list-returns-in-Parallel-clause-over
list-returns-in-Parallel-clause-over t c =
    told-as (λ p. (listed c.args.values.now c.args.cursor.now.received p).over) _ _ c.list_parallel.result (parallel-seen c.args.proc.now _ c.as_slice-in-Parallel.result.now c.in-Parallel.is c.as_slice-in-Parallel.ensures.value) c.list_parallel.ensures.over

pub list_loop-returns-in-Turn-clause-actions : goal.list_loop-returns-in-Turn-clause-actions
list_loop-returns-in-Turn-clause-actions t c =
    done-as (λ p. lists c.args.values.now p c.args.cursor.now) _ _ _ c.list_turn.result (turn-seen (repeat_view c.args.repeat.now).0 (repeat_view c.args.repeat.now).1 c.args.turns.now _ _ _ c.deref.result.now c.in-Turn.is c.deref.ensures) c.list_turn.ensures.actions

pub list_loop-returns-in-Turn-clause-over : goal.list_loop-returns-in-Turn-clause-over
list_loop-returns-in-Turn-clause-over t c =
    told-as (λ p. (listed c.args.values.now c.args.cursor.now.received p).over) _ _ c.list_turn.result (turn-seen (repeat_view c.args.repeat.now).0 (repeat_view c.args.repeat.now).1 c.args.turns.now _ _ _ c.deref.result.now c.in-Turn.is c.deref.ensures) c.list_turn.ensures.over

pub list_gate-returns-in-Opened-clause-actions : goal.list_gate-returns-in-Opened-clause-actions
list_gate-returns-in-Opened-clause-actions t c =
    done-as (λ p. lists c.args.values.now p c.args.cursor.now) _ _ _ c.list_opened.result (opened-seen (await_view c.args.waiting.now).0 (await_view c.args.waiting.now).1 c.args.gate.now _ _ _ _ c.deref.result.now c.in-Opened.is c.deref.ensures) (c.list_opened.ensures.actions (await_view c.args.waiting.now).0 (await_view c.args.waiting.now).1)
