-- What is found of processes on a channel.
use Rattle.std.proofs.Common.{◌≡◌, ℕ, ◌+◌, ◌<◌, ◌∙◌, List, suc, min, length, map, false, true, Some, IfSome, OnOk, slice_get, refl, sym, ap, subst, rules, arith}
use Rattle.std.proofs.lemmas.Result.{on_ok_weaker}
use Rattle.address.specs.declared.Entry.TheVariants.{Ordered, Branch}
use Rattle.process_tree.specs.Proc.{Proc}
use Rattle.process_tree.specs.Tidy.{last_moved}
use Rattle.process_tree.specs.View.{proc_view, procs_of, await_view}
use Rattle.local_actions.specs.internal.Listed.{listed}
use Rattle.local_actions.specs.Walk.{Walk}
use Rattle.local_actions.proofs.public.Begun.{begun-row, row-at}
use Rattle.local_actions.proofs.public.Endings.{row-end}
use Rattle.local_actions.proofs.public.GoingDown.{procs-at, procs-end}
use Rattle.local_actions.proofs.public.OneByOne.{step-over}
use Rattle.channel_uses.specs.internal.Located.{LocatedProc, finds}
use Rattle.channel_uses.specs.internal.Parts.{UnusedBetween}
use Rattle.channel_uses.proofs.LeafLaws.{none-added}
use Rattle.channel_uses.proofs.Finding.{found-below, child-found, branch-added, parallel-rest, all-found}
use Rattle.channel_uses.proofs.Processes.{took-located, gate-located, child-located, turn-located, agree-row, await-channels, sequence-rest, turn-found, took-view, took-found, gate-view, unopened-none, arm-found, passed-on, found-open, child-last, rest-found}
use Rattle.channel_uses.proofs.at_work.+list_on.Goals as goal

pub branch_on-returns : goal.branch_on-returns
branch_on-returns t c = λ at.
    c.leave.ensures ∙ found-below (Branch c.args.number) c.args.channel c.args.values.now (proc_view c.args.child.now) c.args.cursor.now c.enter_branch.new.self c.list_on.new.cursor
    c.in_ok-enter_branch.ensures (c.in_ok-list_on.ensures at)

pub child_on-returns : goal.child_on-returns
child_on-returns t c = λ at.
    c.leave.ensures ∙ found-below (Ordered c.args.number) c.args.channel c.args.values.now (proc_view c.args.child.now) c.args.cursor.now c.enter_child.new.self c.list_on.new.cursor
    c.in_ok-enter_child.ensures (c.in_ok-list_on.ensures at)

pub gate_on-returns-in-Unopened : goal.gate_on-returns-in-Unopened
gate_on-returns-in-Unopened t c = λ h.
    none-added _ c.args.cursor.now c.args.cursor.now
    (unopened-none c.args.channel c.args.values.now c.args.cursor.now.received c.args.gate.now (await_view c.args.waiting.now).0 (await_view c.args.waiting.now).1 c.in-Unopened.is) refl

pub gate_on-returns-in-Opened : goal.gate_on-returns-in-Opened
gate_on-returns-in-Opened t c = λ h.
    let ds = (await_view c.args.waiting.now).0 in
    let cs = (await_view c.args.waiting.now).1 in
    let view = gate-view ds cs c.in-Opened.opened c.in-Opened.value c.in-Opened.over c.args.gate.now c.in-Opened.body c.deref.result.now c.in-Opened.is c.deref.ensures in
    let one = subst (λ (xs : List ℕ). IfSome c.only_arm.result (λ k. (j : ℕ) → slice_get xs j ≡ Some c.in-Opened.opened → j ≡ k))
    (c.as_slice-channels.ensures ∙ sym (await-channels c.args.waiting.now)) c.only_arm.ensures in
    let at = gate-located c.args.table.now c.args.part c.part_of_only-part.result c.only_arm.result ds cs c.in-Opened.opened c.in-Opened.value (proc_view c.deref.result.now) c.in-Opened.over
    c.part_of_only-part.ensures one (subst (λ (p : Proc). LocatedProc c.args.table.now c.args.part p) view h) in
    subst (λ (p : Proc). OnOk c.opened_on.result (c.opened_on.new.cursor ≡ finds c.args.channel c.args.values.now p c.args.cursor.now)) (sym view) (c.opened_on.ensures ds cs at)

pub opened_on-returns : goal.opened_on-returns
opened_on-returns t c = λ ds cs at.
    on_ok_weaker c.body_on.result (λ h. arm-found c.args.channel c.args.opened c.args.values.now ds cs c.args.value (proc_view c.args.body.now) c.args.over c.args.cursor.now c.body_on.new.cursor
    c.if-over.false h) (c.body_on.ensures at)

pub parallel_on-branches-preserved : goal.parallel_on-branches-preserved
parallel_on-branches-preserved t c = λ h.
    let ps = procs_of (map proc_view c.args.procs.now) in
    let within : c.in-Some.next < length c.args.procs.now = c.in-Some.ensures.within.1 in
    let at = procs-at c.args.procs.now c.in-Some.next c.index-procs-next.result within c.index-procs-next.is in
    branch-added c.args.channel c.args.values.now c.args.cursor.now c.branches.cursor c.branch_on.new.cursor ps h.codes c.branches.number c.in-Some.next (c.in-Some.next + 1)
    (proc_view c.index-procs-next.result) h.stem (c.in-Some.ensures.unused h.codes h.located) c.in-Some.ensures.within.0 at refl (c.branches.invariant h)
    (c.in_ok-branch_on.ensures (child-located c.args.table.now c.args.part c.part_at-own.result ps c.in-Some.next (proc_view c.index-procs-next.result) (λ table cs row. c.part_at-own.ensures table cs row) at h))

pub parallel_on-returns : goal.parallel_on-returns
parallel_on-returns t c = λ h.
    let ps = procs_of (map proc_view c.args.procs.now) in
    all-found c.args.channel c.args.values.now c.args.cursor.now c.branches.cursor ps c.branches.number
    (parallel-rest c.args.channel c.args.values.now c.args.cursor.now.received ps h.codes c.branches.number (length c.args.procs.now) 0 h.stem (c.in_default.ensures.unused h.codes h.located)
    (procs-end c.args.procs.now (length c.args.procs.now) (omega arith)))
    (c.branches.invariant h).1

pub sequence_on-returns-then-count-found : goal.sequence_on-returns-then-count-found
sequence_on-returns-then-count-found t c = λ h.
    let ps = begun-row c.args.begun.now c.args.row.now in
    let p = proc_view c.index-begun-number.result in
    let e : c.min-end.result ≡ min (length c.args.begun.now) (length c.args.row.now.codes) = first_of (omega arith, cc, search rules) in
    let at = row-at c.args.begun.now c.args.row.now c.children.number c.index-begun-number.result (omega (arith, e)) (omega (arith, e)) c.index-begun-number.is in
    let inv = c.children.invariant h in
    let made = c.in_ok-child_on.ensures (child-located c.args.table.now c.args.part c.part_at-own.result ps c.children.number p (λ table cs row. c.part_at-own.ensures table cs row) at h) in
    let same : length c.children.cursor.actions ≡ length c.args.cursor.now.actions = ap (λ (w : Walk). length w.actions) inv.0 in
    let less : length c.children.cursor.actions < length c.child_on.new.cursor.actions = omega (arith, same, c.count.ensures, c.count-found.ensures) in
    let not_over = found-open c.args.channel c.args.values.now p c.children.number c.children.cursor c.child_on.new.cursor made less in
    child-found c.args.channel c.args.values.now c.args.cursor.now c.children.cursor c.child_on.new.cursor ps c.children.number (last_moved ps) p inv.0 inv.1 at
    (ap (λ (w : Walk). (listed c.args.values.now w.received p).over) (sym inv.0) ∙ not_over) made

pub sequence_on-returns-then-none_later : goal.sequence_on-returns-then-none_later
sequence_on-returns-then-none_later t c = λ h.
    let ps = begun-row c.args.begun.now c.args.row.now in
    let p = proc_view c.index-begun-number.result in
    let e : c.min-end.result ≡ min (length c.args.begun.now) (length c.args.row.now.codes) = first_of (omega arith, cc, search rules) in
    let at = row-at c.args.begun.now c.args.row.now c.children.number c.index-begun-number.result (omega (arith, e)) (omega (arith, e)) c.index-begun-number.is in
    let inv = c.children.invariant h in
    let made = c.in_ok-child_on.ensures (child-located c.args.table.now c.args.part c.part_at-own.result ps c.children.number p (λ table cs row. c.part_at-own.ensures table cs row) at h) in
    let is : c.none_later.result ≡ true = first_of (cc, search rules) in
    let unused : UnusedBetween c.args.channel h.codes (c.children.number + 1) (length c.args.row.now.codes) =
    subst (λ m. UnusedBetween c.args.channel h.codes (c.children.number + 1) m) c.len-count.ensures (c.none_later.ensures h.codes h.located is) in
    child-last c.args.channel c.args.values.now c.args.cursor.now c.children.cursor c.child_on.new.cursor ps c.children.number (last_moved ps) p inv.0 inv.1 at
    (sequence-rest c.args.channel c.args.values.now c.args.cursor.now.received ps h.codes (suc c.children.number) (length c.args.row.now.codes) 0 h.stem
    (λ i low high u. unused i (omega (arith, low)) high u) (row-end c.args.begun.now c.args.row.now (length c.args.row.now.codes) (omega arith))) made

pub sequence_on-returns-then-not-is_over : goal.sequence_on-returns-then-not-is_over
sequence_on-returns-then-not-is_over t c = λ h.
    let ps = begun-row c.args.begun.now c.args.row.now in
    let p = proc_view c.index-begun-number.result in
    let e : c.min-end.result ≡ min (length c.args.begun.now) (length c.args.row.now.codes) = first_of (omega arith, cc, search rules) in
    let at = row-at c.args.begun.now c.args.row.now c.children.number c.index-begun-number.result (omega (arith, e)) (omega (arith, e)) c.index-begun-number.is in
    let inv = c.children.invariant h in
    let made = c.in_ok-child_on.ensures (child-located c.args.table.now c.args.part c.part_at-own.result ps c.children.number p (λ table cs row. c.part_at-own.ensures table cs row) at h) in
    let is : c.is_over.result ≡ false = first_of (cc, search rules) in
    child-found c.args.channel c.args.values.now c.args.cursor.now c.children.cursor c.child_on.new.cursor ps c.children.number (last_moved ps) p inv.0 inv.1 at
    (sym (c.is_over.ensures.walked c.args.values.now c.args.cursor.now.received) ∙ is) made

pub sequence_on-children-preserved : goal.sequence_on-children-preserved
sequence_on-children-preserved t c = λ h.
    let ps = begun-row c.args.begun.now c.args.row.now in
    let p = proc_view c.index-begun-number.result in
    let e : c.min-end.result ≡ min (length c.args.begun.now) (length c.args.row.now.codes) = first_of (omega arith, cc, search rules) in
    let at = row-at c.args.begun.now c.args.row.now c.children.number c.index-begun-number.result (omega (arith, e)) (omega (arith, e)) c.index-begun-number.is in
    let inv = c.children.invariant h in
    let made = c.in_ok-child_on.ensures (child-located c.args.table.now c.args.part c.part_at-own.result ps c.children.number p (λ table cs row. c.part_at-own.ensures table cs row) at h) in
    let is : c.is_over.result ≡ true = first_of (cc, search rules) in (
      passed-on c.args.channel c.args.values.now p c.children.number c.children.cursor c.child_on.new.cursor (sym (c.is_over.ensures.walked c.args.values.now c.children.cursor.received) ∙ is) made ∙ inv.0,
      step-over c.args.values.now c.args.cursor.now.received ps c.children.number (c.children.number + 1) p at (omega arith) (sym (c.is_over.ensures.walked c.args.values.now c.args.cursor.now.received) ∙ is) ∙ inv.1,
    )

pub sequence_on-returns : goal.sequence_on-returns
sequence_on-returns t c = λ h.
    let ps = begun-row c.args.begun.now c.args.row.now in
    let e : c.min-end.result ≡ min (length c.args.begun.now) (length c.args.row.now.codes) = first_of (omega arith, cc, search rules) in
    let inv = c.children.invariant h in
    on_ok_weaker c.fresh_in_turn_on.result (λ k. rest-found c.args.channel c.args.values.now c.args.begun.now c.args.row.now c.as_slice-codes.result.now c.args.cursor.now c.children.cursor c.fresh_in_turn_on.new.cursor
    c.children.number (last_moved ps) (omega (arith, e)) c.as_slice-codes.ensures inv.0 inv.1 k)
    (c.fresh_in_turn_on.ensures h.codes h.located (agree-row c.args.begun.now c.args.row.now h.codes c.as_slice-codes.result.now c.children.number h.stem (omega (arith, e)) c.as_slice-codes.ensures))

pub test_on-returns-in-Took : goal.test_on-returns-in-Took
test_on-returns-in-Took t c = λ d cs h.
    let view = took-view d cs c.in-Took.arm c.args.tested.now c.in-Took.body c.deref.result.now c.in-Took.is c.deref.ensures in
    let at = took-located c.args.table.now c.args.part c.part_at-part.result d cs c.in-Took.arm (proc_view c.deref.result.now) (λ table rows row. c.part_at-part.ensures table rows row)
    (subst (λ (p : Proc). LocatedProc c.args.table.now c.args.part p) view h) in
    on_ok_weaker c.child_on.result (λ k. took-found c.args.channel c.args.values.now d cs c.in-Took.arm (proc_view c.deref.result.now) _ c.args.cursor.now c.child_on.new.cursor view k) (c.child_on.ensures at)

pub turn_on-returns : goal.turn_on-returns
turn_on-returns t c = λ g d h.
    on_ok_weaker c.child_on.result (λ k. turn-found c.args.channel c.args.values.now g d c.args.turn c.in_ok-number.number (proc_view c.args.body.now) c.args.over c.args.cursor.now c.child_on.new.cursor c.if-over.false
    c.in_ok-number.ensures.number k) (c.child_on.ensures (turn-located c.args.table.now c.args.part g d c.args.turn (proc_view c.args.body.now) c.args.over c.if-over.false h))
