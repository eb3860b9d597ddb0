use Rattle.std.proofs.Common.{◌≡◌, [], ◌+◌, ◌≤◌, ◌<◌, ◌∷◌, ◌∙◌, length, map, drop, sym, ap, subst, arith}
use Rattle.std.proofs.lemmas.List.{drop_all, drop_more}
use Rattle.std.proofs.lemmas.Result.{IfOk-weaker}
use Rattle.process_tree.specs.Translation.{row_of}
use Rattle.std.specs.Option.{option_map}
use Rattle.system.specs.Translation.{expression_of, decision_of}
use Rattle.process_tree.specs.View.{code_view, sender_view}
use Rattle.channel_uses.specs.internal.Parts.{end, AddedUses}
use Rattle.channel_uses.proofs.Parts.{RowSoFar, row-more, row-end, numbered-as, sender-numbered, repeat-numbered, decides-numbered, in-turn-numbered, side-by-side-numbered, awaits-numbered, is-sender, is-repeat, is-decide, is-await, is-in-turn, is-side-by-side}
use Rattle.channel_uses.proofs.part.+part_of.Goals as goal

pub part_of_row-returns : goal.part_of_row-returns
part_of_row-returns t c =
    let past : length c.args.codes.now ≤ c.loop-code.code-index = omega arith in
    let ends : end c.with_parts.result ≡ length c.loop-code.uses.items = omega (arith, c.with_parts.ensures.ends, c.len.ensures, c.loop-code.uses.ok.0) in
    row-end (row_of (map code_view c.args.codes.now)) (row_of (map code_view (drop c.loop-code.code-index c.args.codes.now))) c.args.first c.args.uses.now.items
    c.loop-code.uses.items c.loop-code.parts c.with_parts.result c.loop-code.invariant (ap (λ ds. row_of (map code_view ds)) (drop_all c.loop-code.code-index c.args.codes.now past))
    c.with_parts.ensures.begins ends c.with_parts.ensures.has

pub part_of_row-loop-code-preserved : goal.part_of_row-loop-code-preserved
part_of_row-loop-code-preserved t c =
    let all = c.args.codes.now in
    let i = c.loop-code.code-index in
    let within : i < length all = omega arith in
    let here : drop i all ≡ c.code-item.result ∷ drop (i + 1) all = drop_more all i c.code-item.result within ∙ ap (λ x. x ∷ drop (i + 1) all) (sym c.code-item.is) in
    subst (RowSoFar (row_of (map code_view all)) (row_of (map code_view (drop (i + 1) all))) c.args.uses.now.items c.part_of.new.uses.items) (sym c.in_ok-push.ensures.ok)
    (row-more (row_of (map code_view all)) (row_of (map code_view (drop (i + 1) all))) (code_view c.code-item.result) c.args.uses.now.items c.loop-code.uses.items c.part_of.new.uses.items
    c.loop-code.parts c.in_ok-part_of.field-0
    (subst (λ ds. RowSoFar (row_of (map code_view all)) (row_of (map code_view ds)) c.args.uses.now.items c.loop-code.uses.items c.loop-code.parts) here c.loop-code.invariant)
    c.in_ok-part_of.ensures)

pub part_of-returns-in-Sender : goal.part_of-returns-in-Sender
part_of-returns-in-Sender t c =
    IfOk-weaker c.add.result _ _ (λ p h.
    numbered-as (code_view c.args.code.now) _ c.args.uses.now.items c.add.new.uses.items p
    (is-sender c.args.code.now c.in-Sender.sender c.get.result.now c.in-Sender.is c.get.ensures)
    (sender-numbered (sender_view c.get.result.now) c.args.uses.now.items c.add.new.uses.items p (subst (λ d. AddedUses (d ∷ []) c.args.uses.now.items c.add.new.uses.items p) c.channel_of.ensures h))) c.add.ensures

pub part_of-returns-in-Repeat : goal.part_of-returns-in-Repeat
part_of-returns-in-Repeat t c =
    IfOk-weaker c.part_of.result _ _ (λ p h.
    numbered-as (code_view c.args.code.now) _ c.args.uses.now.items c.part_of.new.uses.items p
    (is-repeat c.args.code.now c.in-Repeat.repeat c.get-in-Repeat.result.now c.in-Repeat.is c.get-in-Repeat.ensures)
    (repeat-numbered (option_map expression_of c.get-in-Repeat.result.now.guard) (code_view c.get-in-Repeat.result.now.body) c.args.uses.now.items c.part_of.new.uses.items p h)) c.part_of.ensures

pub part_of-returns-in-Decide : goal.part_of-returns-in-Decide
part_of-returns-in-Decide t c =
    let begins : c.len-first.result ≡ length c.args.uses.now.items = omega (arith, c.len-first.ensures, c.args.uses.now.ok.0) in
    IfOk-weaker c.part_of_row.result _ _ (λ p h.
    numbered-as (code_view c.args.code.now) _ c.args.uses.now.items c.part_of_row.new.uses.items p
    (is-decide c.args.code.now c.in-Decide.decide c.get-in-Decide.result.now c.as_slice.result.now c.in-Decide.is c.get-in-Decide.ensures c.as_slice.ensures)
    (decides-numbered (decision_of c.get-in-Decide.result.now.decision) (row_of (map code_view c.as_slice.result.now)) c.len-first.result c.args.uses.now.items c.part_of_row.new.uses.items p begins h)) c.part_of_row.ensures

pub part_of-returns-in-InTurn : goal.part_of-returns-in-InTurn
part_of-returns-in-InTurn t c =
    let begins : c.len-first.result ≡ length c.args.uses.now.items = omega (arith, c.len-first.ensures, c.args.uses.now.ok.0) in
    IfOk-weaker c.part_of_row-in-InTurn.result _ _ (λ p h.
    numbered-as (code_view c.args.code.now) _ c.args.uses.now.items c.part_of_row-in-InTurn.new.uses.items p
    (is-in-turn c.args.code.now c.in-InTurn.row c.get-in-InTurn.result.now c.as_slice-in-InTurn.result.now c.in-InTurn.is c.get-in-InTurn.ensures c.as_slice-in-InTurn.ensures)
    (in-turn-numbered (row_of (map code_view c.as_slice-in-InTurn.result.now)) c.len-first.result c.args.uses.now.items c.part_of_row-in-InTurn.new.uses.items p begins h)) c.part_of_row-in-InTurn.ensures

pub part_of-returns-in-SideBySide : goal.part_of-returns-in-SideBySide
part_of-returns-in-SideBySide t c =
    let begins : c.len-first.result ≡ length c.args.uses.now.items = omega (arith, c.len-first.ensures, c.args.uses.now.ok.0) in
    IfOk-weaker c.part_of_row-in-SideBySide.result _ _ (λ p h.
    numbered-as (code_view c.args.code.now) _ c.args.uses.now.items c.part_of_row-in-SideBySide.new.uses.items p
    (is-side-by-side c.args.code.now c.in-SideBySide.row c.get-in-SideBySide.result.now c.as_slice-in-SideBySide.result.now c.in-SideBySide.is c.get-in-SideBySide.ensures c.as_slice-in-SideBySide.ensures)
    (side-by-side-numbered (row_of (map code_view c.as_slice-in-SideBySide.result.now)) c.len-first.result c.args.uses.now.items c.part_of_row-in-SideBySide.new.uses.items p begins h)) c.part_of_row-in-SideBySide.ensures

pub part_of-returns-in-Await : goal.part_of-returns-in-Await
part_of-returns-in-Await t c =
    let begins : c.len-first.result ≡ length c.args.uses.now.items = omega (arith, c.len-first.ensures, c.args.uses.now.ok.0) in
    IfOk-weaker c.part_of_row-in-Await.result _ _ (λ p h.
    numbered-as (code_view c.args.code.now) _ c.args.uses.now.items c.part_of_row-in-Await.new.uses.items p
    (is-await c.args.code.now c.in-Await.waiting c.get-in-Await.result.now c.as_slice-in-Await.result.now c.in-Await.is c.get-in-Await.ensures c.as_slice-in-Await.ensures)
    (awaits-numbered c.get-in-Await.result.now.channels (row_of (map code_view c.as_slice-in-Await.result.now)) c.len-first.result c.args.uses.now.items c.part_of_row-in-Await.new.uses.items p begins h)) c.part_of_row-in-Await.ensures
