use Rattle.std.proofs.Common.{◌≡◌, ◌+◌, ◌<◌, ◌∙◌, suc, length, map, refl, sym, ap, subst, arith}
use Rattle.std.proofs.lemmas.Result.{on_ok_weaker}
use Rattle.address.specs.declared.Entry.TheVariants.{Ordered, Branch}
use Rattle.process_tree.specs.Proc.{started, all_started}
use Rattle.process_tree.specs.Translation.{row_of}
use Rattle.process_tree.specs.View.{code_view}
use Rattle.process_tree.specs.declared.code.Row.{Row}
use Rattle.local_actions.specs.internal.Listed.{Listing}
use Rattle.local_actions.specs.Walk.{added}
use Rattle.local_actions.proofs.public.OneByOne.{step-over, fresh-at, fresh-past}
use Rattle.local_actions.proofs.public.Passing.{fresh-in-turn}
use Rattle.channel_uses.specs.OnChannel.{on}
use Rattle.channel_uses.specs.internal.Located.{LocatedCode}
use Rattle.channel_uses.proofs.Finding.{awaits-none, found-below, child-found, code-at, branch-added, from-done, all-found}
use Rattle.channel_uses.proofs.LeafLaws.{none-added}
use Rattle.channel_uses.proofs.Locations.{row-in-turn}
use Rattle.channel_uses.proofs.Parts.{is-in-turn}
use Rattle.channel_uses.proofs.Stems.{all-stem}
use Rattle.channel_uses.proofs.fresh.+fresh_on.Goals as goal

pub fresh_branch_on-returns : goal.fresh_branch_on-returns
fresh_branch_on-returns t c = λ at.
    c.leave.ensures ∙ found-below (Branch c.args.number) c.args.channel c.args.values.now (started (code_view c.args.code.now)) c.args.cursor.now c.enter_branch.new.self c.fresh_on.new.cursor
    c.in_ok-enter_branch.ensures (c.in_ok-fresh_on.ensures at)

pub fresh_child_on-returns : goal.fresh_child_on-returns
fresh_child_on-returns t c = λ at.
    c.leave.ensures ∙ found-below (Ordered c.args.number) c.args.channel c.args.values.now (started (code_view c.args.code.now)) c.args.cursor.now c.enter_child.new.self c.fresh_on.new.cursor
    c.in_ok-enter_child.ensures (c.in_ok-fresh_on.ensures at)

pub fresh_in_turn_on-returns-then-not-starts_over : goal.fresh_in_turn_on-returns-then-not-starts_over
fresh_in_turn_on-returns-then-not-starts_over t c = λ ds row agree.
    let cs = row_of (map code_view c.args.codes.now) in
    let within : c.children.number < length c.args.codes.now = c.children-test.true in
    let located = subst (LocatedCode c.args.table.now c.part_at-part.result)
    (agree c.children.number c.children.invariant.1 ∙ code-at c.args.codes.now c.children.number c.index-codes-number.result within c.index-codes-number.is)
    (c.part_at-part.ensures c.args.table.now ds row) in
    on_ok_weaker c.fresh_child_on.result (λ h.
    child-found c.args.channel c.args.values.now c.args.cursor.now c.children.cursor c.fresh_child_on.new.cursor (all_started cs) c.children.number c.args.from (started (code_view c.index-codes-number.result))
    c.children.invariant.0 c.children.invariant.2 (fresh-at c.args.codes.now c.children.number c.index-codes-number.result within c.index-codes-number.is)
    (sym (c.starts_over.ensures c.args.values.now c.args.cursor.now.received) ∙ c.if-not-starts_over.true) h) (c.fresh_child_on.ensures located)

pub fresh_in_turn_on-children-preserved : goal.fresh_in_turn_on-children-preserved
fresh_in_turn_on-children-preserved t c =
    let cs = row_of (map code_view c.args.codes.now) in
    let next : c.children.number + 1 ≡ suc c.children.number = omega arith in (
      c.children.invariant.0,
      omega (arith, c.children.invariant.1),
      step-over c.args.values.now c.args.cursor.now.received (all_started cs) c.children.number (c.children.number + 1) (started (code_view c.index-codes-number.result))
          (fresh-at c.args.codes.now c.children.number c.index-codes-number.result c.children-test.true c.index-codes-number.is) next
          (sym (c.starts_over.ensures c.args.values.now c.args.cursor.now.received) ∙ c.if-not-starts_over.false)
          ∙ c.children.invariant.2,
    )

pub fresh_in_turn_on-returns : goal.fresh_in_turn_on-returns
fresh_in_turn_on-returns t c = λ ds row agree.
    none-added _ c.args.cursor.now c.children.cursor
    (ap (λ (l : Listing). on c.args.channel l.actions)
    (sym c.children.invariant.2 ∙ fresh-past c.args.values.now c.args.cursor.now.received c.args.codes.now c.children.number 0 (omega arith))) c.children.invariant.0

pub fresh_on-returns-in-Await : goal.fresh_on-returns-in-Await
fresh_on-returns-in-Await t c = λ at.
    none-added _ c.args.cursor.now c.args.cursor.now
    (awaits-none c.args.channel c.args.values.now c.args.cursor.now.received c.args.code.now c.in-Await.field-0 c.in-Await.is) refl

pub fresh_on-returns-in-InTurn : goal.fresh_on-returns-in-InTurn
fresh_on-returns-in-InTurn t c = λ at.
    let codes = c.as_slice-codes.ensures ∙ ap (λ (r : Row). r.codes) c.get-in-InTurn.ensures in
    on_ok_weaker c.fresh_in_turn_on.result (λ h. h ∙ ap (λ (l : Listing). added (on c.args.channel l.actions) c.args.cursor.now)
    (fresh-in-turn c.args.values.now c.args.cursor.now.received c.args.code.now c.in-InTurn.row c.as_slice-codes.result.now c.in-InTurn.is codes))
    (c.fresh_in_turn_on.ensures (row_of (map code_view c.as_slice-codes.result.now)) (row-in-turn c.args.table.now c.args.part (code_view c.args.code.now) (row_of (map code_view c.as_slice-codes.result.now))
    (is-in-turn c.args.code.now c.in-InTurn.row c.get-in-InTurn.result.now c.as_slice-codes.result.now c.in-InTurn.is c.get-in-InTurn.ensures c.as_slice-codes.ensures) at) (λ i l. refl))

pub fresh_side_by_side_on-branches-preserved : goal.fresh_side_by_side_on-branches-preserved
fresh_side_by_side_on-branches-preserved t c = λ row.
    let cs = row_of (map code_view c.args.codes.now) in
    let within : c.in-Some.next < length c.args.codes.now = c.in-Some.ensures.within.1 in
    let located = subst (LocatedCode c.args.table.now c.part_at-part.result) (code-at c.args.codes.now c.in-Some.next c.index-codes-next.result within c.index-codes-next.is)
    (c.part_at-part.ensures c.args.table.now cs row) in
    branch-added c.args.channel c.args.values.now c.args.cursor.now c.branches.cursor c.fresh_branch_on.new.cursor (all_started cs) cs c.branches.number c.in-Some.next (c.in-Some.next + 1)
    (started (code_view c.index-codes-next.result)) (all-stem cs) (c.in-Some.ensures.unused cs row) c.in-Some.ensures.within.0
    (fresh-at c.args.codes.now c.in-Some.next c.index-codes-next.result within c.index-codes-next.is) refl (c.branches.invariant row) (c.in_ok-fresh_branch_on.ensures located)

pub fresh_side_by_side_on-returns : goal.fresh_side_by_side_on-returns
fresh_side_by_side_on-returns t c = λ row.
    all-found c.args.channel c.args.values.now c.args.cursor.now c.branches.cursor (all_started (row_of (map code_view c.args.codes.now))) c.branches.number
    (from-done c.args.channel c.args.values.now c.args.cursor.now.received c.args.codes.now c.branches.number (c.in_default.ensures.unused (row_of (map code_view c.args.codes.now)) row))
    (c.branches.invariant row).1
