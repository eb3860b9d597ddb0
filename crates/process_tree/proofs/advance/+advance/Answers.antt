-- A move of the tree, by the child in which it is made.
use Rattle.std.proofs.Common.{◌≡◌, ◌<◌, vec_items, Some, IsSome, length, map, refl, ◌∙◌, sym, ap, subst, arith}
use Rattle.std.specs.Global.{Box}
use Rattle.std.proofs.lemmas.Result.{IfOk-weaker, on_err_weaker}
use Rattle.process_tree.specs.Proc.{started, sequence, parallel, took, entered}
use Rattle.process_tree.specs.Advanced.{advanced, advanced_sequence, advanced_parallel}
use Rattle.process_tree.specs.Places.{wrap}
use Rattle.process_tree.specs.View.{repeat_view, decide_view, await_view, row_view, proc_view, out_view, procs_of, begun_of, opened_of}
use Rattle.process_tree.specs.Children.{proc_at}
use Rattle.process_tree.specs.declared.proc.Proc.{Proc}
use Rattle.process_tree.proofs.public.Steps.{none-is, is-some, wrapped, took-inside, opened-inside, opened-closes, turn-next, turn-is, parallel-somewhere, parallel-moves, sequence-somewhere, sequence-moves, child-asked, child-moved, branch-at, branch-set, branch-within, begun-at, begun-set, view-same}
use Rattle.process_tree.proofs.public.Forms.{loop-seen, test-seen, arms-seen, sequence-seen, parallel-seen, turn-seen, took-seen, opened-seen, asked-as, moved-as, stays-as}
use Rattle.process_tree.proofs.public.Views.{repeat_body}
use Rattle.process_tree.proofs.advance.+advance.Goals as goal

pub in_branch-advance-requires : goal.in_branch-advance-requires
in_branch-advance-requires t c =
    let l : c.in-Some.number < length c.args.procs.now.items = omega (arith, c.in-Some-get_mut.ensures.variant.0 refl, c.args.procs.now.ok.0) in (
      omega (arith, c.in-Some.ensures.shorter),
      child-asked (procs_of (map proc_view c.args.procs.now.items)) c.in-Some.number c.in-Some.below.now c.args.ask
          (advanced_parallel 0 (procs_of (map proc_view c.args.procs.now.items)) c.args.place.now c.args.ask) (proc_view c.in-Some-get_mut.child.now)
          (parallel-moves (procs_of (map proc_view c.args.procs.now.items)) c.args.place.now c.in-Some.number c.in-Some.below.now c.args.ask (sym c.in-Some.ensures.value) c.requires)
          (branch-at c.args.procs.now.items c.in-Some.number c.in-Some-get_mut.child.now l c.in-Some-get_mut.ensures.value),
    )

pub in_branch-returns-in-None-clause-ok : goal.in_branch-returns-in-None-clause-ok
in_branch-returns-in-None-clause-ok t c =
    absurd (parallel-somewhere (procs_of (map proc_view c.args.procs.now.items)) c.args.place.now c.args.ask (sym c.in-None.ensures.value) c.requires)

pub in_branch-returns-in-None-get_mut-clause-ok : goal.in_branch-returns-in-None-get_mut-clause-ok
in_branch-returns-in-None-get_mut-clause-ok t c =
    let m = parallel-moves (procs_of (map proc_view c.args.procs.now.items)) c.args.place.now c.in-Some.number c.in-Some.below.now c.args.ask (sym c.in-Some.ensures.value) c.requires in
    let l = branch-within c.args.procs.now.items c.in-Some.number m.child.child m.child.is in
    absurd (none-is (c.in-None-get_mut.ensures.variant.1 (omega (arith, l, c.args.procs.now.ok.0))))

pub in_branch-returns-in-Some-get_mut-clause-ok : goal.in_branch-returns-in-Some-get_mut-clause-ok
in_branch-returns-in-Some-get_mut-clause-ok t c =
    let l : c.in-Some.number < length c.args.procs.now.items = omega (arith, c.in-Some-get_mut.ensures.variant.0 refl, c.args.procs.now.ok.0) in
    IfOk-weaker c.advance.result _ _ (λ out h.
    ap (wrap parallel) (child-moved (procs_of (map proc_view c.args.procs.now.items)) c.in-Some.number c.in-Some.below.now c.args.ask
    (advanced_parallel 0 (procs_of (map proc_view c.args.procs.now.items)) c.args.place.now c.args.ask) (proc_view c.in-Some-get_mut.child.now)
    (proc_view c.advance.new.proc) (out_view out)
    (parallel-moves (procs_of (map proc_view c.args.procs.now.items)) c.args.place.now c.in-Some.number c.in-Some.below.now c.args.ask (sym c.in-Some.ensures.value) c.requires)
    (branch-at c.args.procs.now.items c.in-Some.number c.in-Some-get_mut.child.now l c.in-Some-get_mut.ensures.value) h)
    ∙ ap (λ row. Some (parallel row, out_view out)) (branch-set c.args.procs.now.items c.in-Some.number c.advance.new.proc)) c.advance.ensures.ok

pub in_branch-returns-in-Some-get_mut-clause-err : goal.in_branch-returns-in-Some-get_mut-clause-err
in_branch-returns-in-Some-get_mut-clause-err t c =
    on_err_weaker c.advance.result (λ h. ap procs_of (view-same c.args.procs.now.items c.in-Some.number c.in-Some-get_mut.child.now c.advance.new.proc c.in-Some-get_mut.ensures.value h))
    c.advance.ensures.err

pub in_child-advance-requires : goal.in_child-advance-requires
in_child-advance-requires t c =
    let l : c.in-Some.number < length c.begin_to.new.begun.items = omega (arith, c.in-Some-get_mut.ensures.variant.0 refl, c.begin_to.new.begun.ok.0) in
    let r = subst (λ row. IsSome (advanced (sequence row) c.args.place.now c.args.ask)) (sym c.in_ok-begin_to-in-Some.ensures.same) c.requires in (
      omega (arith, c.in-Some.ensures.shorter),
      child-asked (begun_of (map proc_view c.begin_to.new.begun.items) (row_view c.args.row.now)) c.in-Some.number c.in-Some.below.now c.args.ask
          (advanced_sequence 0 (begun_of (map proc_view c.begin_to.new.begun.items) (row_view c.args.row.now)) c.args.place.now c.args.ask) (proc_view c.in-Some-get_mut.child.now)
          (sequence-moves (begun_of (map proc_view c.begin_to.new.begun.items) (row_view c.args.row.now)) c.args.place.now c.in-Some.number c.in-Some.below.now c.args.ask (sym c.in-Some.ensures.value) r)
          (begun-at c.begin_to.new.begun.items (row_view c.args.row.now) c.in-Some.number c.in-Some-get_mut.child.now l c.in-Some-get_mut.ensures.value),
    )

pub in_child-returns-in-None-clause-ok : goal.in_child-returns-in-None-clause-ok
in_child-returns-in-None-clause-ok t c =
    absurd (sequence-somewhere (begun_of (map proc_view c.args.begun.now.items) (row_view c.args.row.now)) c.args.place.now c.args.ask (sym c.in-None.ensures.value) c.requires)

pub in_child-returns-in-None-get_mut-clause-ok : goal.in_child-returns-in-None-get_mut-clause-ok
in_child-returns-in-None-get_mut-clause-ok t c =
    let m = sequence-moves (begun_of (map proc_view c.args.begun.now.items) (row_view c.args.row.now)) c.args.place.now c.in-Some.number c.in-Some.below.now c.args.ask (sym c.in-Some.ensures.value) c.requires in
    let l = c.in_ok-begin_to-in-Some.ensures.ok (is-some (proc_at (begun_of (map proc_view c.args.begun.now.items) (row_view c.args.row.now)) c.in-Some.number) m.child.child m.child.is) in
    absurd (none-is (c.in-None-get_mut.ensures.variant.1 (omega (arith, l, c.begin_to.new.begun.ok.0))))

pub in_child-returns-in-Some-get_mut-clause-ok : goal.in_child-returns-in-Some-get_mut-clause-ok
in_child-returns-in-Some-get_mut-clause-ok t c =
    let l : c.in-Some.number < length c.begin_to.new.begun.items = omega (arith, c.in-Some-get_mut.ensures.variant.0 refl, c.begin_to.new.begun.ok.0) in
    let r = subst (λ row. IsSome (advanced (sequence row) c.args.place.now c.args.ask)) (sym c.in_ok-begin_to-in-Some.ensures.same) c.requires in
    IfOk-weaker c.advance.result _ _ (λ out h.
    ap (λ row. advanced (sequence row) c.args.place.now c.args.ask) (sym c.in_ok-begin_to-in-Some.ensures.same)
    ∙ ap (wrap sequence) (child-moved (begun_of (map proc_view c.begin_to.new.begun.items) (row_view c.args.row.now)) c.in-Some.number c.in-Some.below.now c.args.ask
    (advanced_sequence 0 (begun_of (map proc_view c.begin_to.new.begun.items) (row_view c.args.row.now)) c.args.place.now c.args.ask) (proc_view c.in-Some-get_mut.child.now)
    (proc_view c.advance.new.proc) (out_view out)
    (sequence-moves (begun_of (map proc_view c.begin_to.new.begun.items) (row_view c.args.row.now)) c.args.place.now c.in-Some.number c.in-Some.below.now c.args.ask (sym c.in-Some.ensures.value) r)
    (begun-at c.begin_to.new.begun.items (row_view c.args.row.now) c.in-Some.number c.in-Some-get_mut.child.now l c.in-Some-get_mut.ensures.value) h)
    ∙ ap (λ row. Some (sequence row, out_view out)) (begun-set c.begin_to.new.begun.items (row_view c.args.row.now) c.in-Some.number c.advance.new.proc l)) c.advance.ensures.ok

pub in_child-returns-in-Some-get_mut-clause-err : goal.in_child-returns-in-Some-get_mut-clause-err
in_child-returns-in-Some-get_mut-clause-err t c =
    on_err_weaker c.advance.result (λ h.
    ap (λ ps. begun_of ps (row_view c.args.row.now)) (view-same c.begin_to.new.begun.items c.in-Some.number c.in-Some-get_mut.child.now c.advance.new.proc c.in-Some-get_mut.ensures.value h)
    ∙ c.in_ok-begin_to-in-Some.ensures.same) c.advance.ensures.err

pub in_taken-advance-requires : goal.in_taken-advance-requires
in_taken-advance-requires t c =
    let inside = took-inside (decide_view c.args.decide.now).0 (decide_view c.args.decide.now).1 c.args.arm (proc_view c.args.body.now.value) c.args.place.now c.args.ask
    c.in-Some.field-0-0 c.in-Some.below.now (sym c.in-Some.ensures.value) c.requires in (
      omega (arith, c.in-Some.ensures.shorter),
      subst (λ (p : Proc). IsSome (advanced (proc_view p) c.in-Some.below.now c.args.ask)) (sym c.deref_mut.ensures.value)
          (wrapped (took (decide_view c.args.decide.now).0 (decide_view c.args.decide.now).1 c.args.arm) (advanced (proc_view c.args.body.now.value) c.in-Some.below.now c.args.ask)
          (subst (λ o. IsSome o) inside c.requires)),
    )

pub in_taken-returns-in-Some-clause-ok : goal.in_taken-returns-in-Some-clause-ok
in_taken-returns-in-Some-clause-ok t c =
    let inside = took-inside (decide_view c.args.decide.now).0 (decide_view c.args.decide.now).1 c.args.arm (proc_view c.args.body.now.value) c.args.place.now c.args.ask
    c.in-Some.field-0-0 c.in-Some.below.now (sym c.in-Some.ensures.value) c.requires in
    IfOk-weaker c.advance.result _ _ (λ out h.
    inside ∙ ap (wrap (took (decide_view c.args.decide.now).0 (decide_view c.args.decide.now).1 c.args.arm))
    (subst (λ (p : Proc). advanced (proc_view p) c.in-Some.below.now c.args.ask ≡ Some (proc_view c.advance.new.proc, out_view out)) c.deref_mut.ensures.value h)) c.advance.ensures.ok

pub in_opened-advance-requires : goal.in_opened-advance-requires
in_opened-advance-requires t c =
    let inside = opened-inside c.args.over.now (await_view c.args.waiting.now).0 (await_view c.args.waiting.now).1 c.args.channel c.args.value (proc_view c.args.body.now.value) c.args.place.now
    c.args.ask c.in-Some.number c.in-Some.below.now (sym c.in-Some.ensures.value) c.if-number-eq1.true c.requires in (
      omega (arith, c.in-Some.ensures.shorter),
      subst (λ (p : Proc). IsSome (advanced (proc_view p) c.in-Some.below.now c.args.ask)) (sym c.deref_mut.ensures.value)
          (wrapped (entered (await_view c.args.waiting.now).0 (await_view c.args.waiting.now).1 c.args.channel c.args.value)
          (advanced (proc_view c.args.body.now.value) c.in-Some.below.now c.args.ask) (subst (λ o. IsSome o) inside.1 c.requires)),
    )

pub in_opened-returns-then-number-eq1-clause-ok : goal.in_opened-returns-then-number-eq1-clause-ok
in_opened-returns-then-number-eq1-clause-ok t c =
    let inside = opened-inside c.args.over.now (await_view c.args.waiting.now).0 (await_view c.args.waiting.now).1 c.args.channel c.args.value (proc_view c.args.body.now.value) c.args.place.now
    c.args.ask c.in-Some.number c.in-Some.below.now (sym c.in-Some.ensures.value) c.if-number-eq1.true c.requires in
    IfOk-weaker c.advance.result _ _ (λ out h.
    inside.1 ∙ ap (wrap (entered (await_view c.args.waiting.now).0 (await_view c.args.waiting.now).1 c.args.channel c.args.value))
    (subst (λ (p : Proc). advanced (proc_view p) c.in-Some.below.now c.args.ask ≡ Some (proc_view c.advance.new.proc, out_view out)) c.deref_mut.ensures.value h)
    ∙ ap (λ over. Some (opened_of over (await_view c.args.waiting.now).0 (await_view c.args.waiting.now).1 c.args.channel c.args.value (proc_view c.advance.new.proc), out_view out)) (sym inside.0))
    c.advance.ensures.ok

pub in_opened-returns-else-number-eq1-clause-ok : goal.in_opened-returns-else-number-eq1-clause-ok
in_opened-returns-else-number-eq1-clause-ok t c =
    opened-closes c.args.over.now (await_view c.args.waiting.now).0 (await_view c.args.waiting.now).1 c.args.channel c.args.value (proc_view c.args.body.now.value) c.args.place.now
    c.args.ask c.in-Some.number c.in-Some.below.now (sym c.in-Some.ensures.value) c.if-number-eq1.false c.requires

pub in_turn-returns-in_ok-fresh-in-Some-clause-ok : goal.in_turn-returns-in_ok-fresh-in-Some-clause-ok
in_turn-returns-in_ok-fresh-in-Some-clause-ok t c =
    let n = turn-next c.args.over.now (repeat_view c.args.repeat.now).0 (repeat_view c.args.repeat.now).1 c.args.turn.now (proc_view c.args.body.now.value) c.args.place.now c.args.ask
    c.in-Some.number c.in-Some.below.now (sym c.in-Some.ensures.value) c.if-number-eq1.false (sym c.takes_none.ensures ∙ c.if-takes_none.false) c.requires in
    n.2 ∙ turn-is c.args.over.now (repeat_view c.args.repeat.now).0 (repeat_view c.args.repeat.now).1 c.args.turn.now c.from.result (proc_view c.args.body.now.value)
    (proc_view c.replace.result.value) (proc_view c.replace.new.dest.value) n.0 (omega (arith, n.1))
    (ap (λ (b : Box Proc). proc_view b.value) c.replace.ensures.after ∙ c.in_ok-fresh-in-Some.ensures ∙ sym (ap started (repeat_body c.args.repeat.now)))
    (ap (λ (b : Box Proc). proc_view b.value) c.replace.ensures.value)

pub advance-in_loop-requires : goal.advance-in_loop-requires
advance-in_loop-requires t c =
    (omega arith, asked-as _ _ c.args.place.now c.args.ask (loop-seen c.args.proc.now _ c.get.result.now _ _ c.in-Loop.is (c.get.ensures ∙ c.in-Loop.repeat-is) c.in-Loop.turns-is) c.requires)

pub advance-returns-in-Loop-clause-ok : goal.advance-returns-in-Loop-clause-ok
advance-returns-in-Loop-clause-ok t c =
    moved-as _ _ _ _ c.args.place.now c.args.ask c.in_loop.result (loop-seen c.args.proc.now _ c.get.result.now _ _ c.in-Loop.is (c.get.ensures ∙ c.in-Loop.repeat-is) c.in-Loop.turns-is)
    (loop-seen _ _ c.get.result.now c.in_loop.new.turns _ refl c.get.ensures refl) c.in_loop.ensures.ok

pub advance-returns-in-Loop-clause-err : goal.advance-returns-in-Loop-clause-err
advance-returns-in-Loop-clause-err t c =
    stays-as _ _ _ _ c.in_loop.result (loop-seen c.args.proc.now _ c.get.result.now _ _ c.in-Loop.is (c.get.ensures ∙ c.in-Loop.repeat-is) c.in-Loop.turns-is)
    (loop-seen _ _ c.get.result.now c.in_loop.new.turns _ refl c.get.ensures refl) c.in_loop.ensures.err

pub advance-in_test-requires : goal.advance-in_test-requires
advance-in_test-requires t c =
    (omega arith, asked-as _ _ c.args.place.now c.args.ask (test-seen c.args.proc.now _ c.get-in-Test.result.now _ _ c.in-Test.is (c.get-in-Test.ensures ∙ c.in-Test.decide-is) c.in-Test.tested-is) c.requires)

pub advance-returns-in-Test-clause-ok : goal.advance-returns-in-Test-clause-ok
advance-returns-in-Test-clause-ok t c =
    moved-as _ _ _ _ c.args.place.now c.args.ask c.in_test.result (test-seen c.args.proc.now _ c.get-in-Test.result.now _ _ c.in-Test.is (c.get-in-Test.ensures ∙ c.in-Test.decide-is) c.in-Test.tested-is)
    (test-seen _ _ c.get-in-Test.result.now c.in_test.new.tested _ refl c.get-in-Test.ensures refl) c.in_test.ensures.ok

pub advance-returns-in-Test-clause-err : goal.advance-returns-in-Test-clause-err
advance-returns-in-Test-clause-err t c =
    stays-as _ _ _ _ c.in_test.result (test-seen c.args.proc.now _ c.get-in-Test.result.now _ _ c.in-Test.is (c.get-in-Test.ensures ∙ c.in-Test.decide-is) c.in-Test.tested-is)
    (test-seen _ _ c.get-in-Test.result.now c.in_test.new.tested _ refl c.get-in-Test.ensures refl) c.in_test.ensures.err

pub advance-in_arms-requires : goal.advance-in_arms-requires
advance-in_arms-requires t c =
    (omega arith, asked-as _ _ c.args.place.now c.args.ask (arms-seen c.args.proc.now _ c.get-in-Arms.result.now _ _ c.in-Arms.is (c.get-in-Arms.ensures ∙ c.in-Arms.waiting-is) c.in-Arms.gate-is) c.requires)

pub advance-returns-in-Arms-clause-ok : goal.advance-returns-in-Arms-clause-ok
advance-returns-in-Arms-clause-ok t c =
    moved-as _ _ _ _ c.args.place.now c.args.ask c.in_arms.result (arms-seen c.args.proc.now _ c.get-in-Arms.result.now _ _ c.in-Arms.is (c.get-in-Arms.ensures ∙ c.in-Arms.waiting-is) c.in-Arms.gate-is)
    (arms-seen _ _ c.get-in-Arms.result.now c.in_arms.new.gate _ refl c.get-in-Arms.ensures refl) c.in_arms.ensures.ok

pub advance-returns-in-Arms-clause-err : goal.advance-returns-in-Arms-clause-err
advance-returns-in-Arms-clause-err t c =
    stays-as _ _ _ _ c.in_arms.result (arms-seen c.args.proc.now _ c.get-in-Arms.result.now _ _ c.in-Arms.is (c.get-in-Arms.ensures ∙ c.in-Arms.waiting-is) c.in-Arms.gate-is)
    (arms-seen _ _ c.get-in-Arms.result.now c.in_arms.new.gate _ refl c.get-in-Arms.ensures refl) c.in_arms.ensures.err

pub advance-in_child-requires : goal.advance-in_child-requires
advance-in_child-requires t c =
    (omega arith, asked-as _ _ c.args.place.now c.args.ask (sequence-seen c.args.proc.now _ c.get-in-Sequence.result.now _ _ c.in-Sequence.is (c.get-in-Sequence.ensures ∙ c.in-Sequence.row-is) (ap vec_items c.in-Sequence.begun-is)) c.requires)

pub advance-returns-in-Sequence-clause-ok : goal.advance-returns-in-Sequence-clause-ok
advance-returns-in-Sequence-clause-ok t c =
    moved-as _ _ _ _ c.args.place.now c.args.ask c.in_child.result (sequence-seen c.args.proc.now _ c.get-in-Sequence.result.now _ _ c.in-Sequence.is (c.get-in-Sequence.ensures ∙ c.in-Sequence.row-is) (ap vec_items c.in-Sequence.begun-is))
    (sequence-seen _ _ c.get-in-Sequence.result.now c.in_child.new.begun _ refl c.get-in-Sequence.ensures refl) c.in_child.ensures.ok

pub advance-returns-in-Sequence-clause-err : goal.advance-returns-in-Sequence-clause-err
advance-returns-in-Sequence-clause-err t c =
    stays-as _ _ _ _ c.in_child.result (sequence-seen c.args.proc.now _ c.get-in-Sequence.result.now _ _ c.in-Sequence.is (c.get-in-Sequence.ensures ∙ c.in-Sequence.row-is) (ap vec_items c.in-Sequence.begun-is))
    (sequence-seen _ _ c.get-in-Sequence.result.now c.in_child.new.begun _ refl c.get-in-Sequence.ensures refl) (on_err_weaker c.in_child.result (λ h. ap sequence h) c.in_child.ensures.err)

pub advance-in_branch-requires : goal.advance-in_branch-requires
advance-in_branch-requires t c =
    (omega arith, asked-as _ _ c.args.place.now c.args.ask (parallel-seen c.args.proc.now _ _ c.in-Parallel.is (ap vec_items c.in-Parallel.procs-is)) c.requires)

pub in_loop-in_turn-requires : goal.in_loop-in_turn-requires
in_loop-in_turn-requires t c =
    (omega arith, asked-as _ _ c.args.place.now c.args.ask (turn-seen (repeat_view c.args.repeat.now).0 (repeat_view c.args.repeat.now).1 c.args.turns.now _ _ _ _ c.in-Turn.is refl) c.requires)

pub in_loop-returns-in-Turn-clause-ok : goal.in_loop-returns-in-Turn-clause-ok
in_loop-returns-in-Turn-clause-ok t c =
    moved-as _ _ _ _ c.args.place.now c.args.ask c.in_turn.result (turn-seen (repeat_view c.args.repeat.now).0 (repeat_view c.args.repeat.now).1 c.args.turns.now _ _ _ _ c.in-Turn.is refl)
    (turn-seen (repeat_view c.args.repeat.now).0 (repeat_view c.args.repeat.now).1 _ _ _ _ _ refl refl) c.in_turn.ensures.ok

pub in_loop-returns-in-Turn-clause-err : goal.in_loop-returns-in-Turn-clause-err
in_loop-returns-in-Turn-clause-err t c =
    stays-as _ _ _ _ c.in_turn.result (turn-seen (repeat_view c.args.repeat.now).0 (repeat_view c.args.repeat.now).1 c.args.turns.now _ _ _ _ c.in-Turn.is refl)
    (turn-seen (repeat_view c.args.repeat.now).0 (repeat_view c.args.repeat.now).1 _ _ _ _ _ refl refl) c.in_turn.ensures.err

pub in_test-in_taken-requires : goal.in_test-in_taken-requires
in_test-in_taken-requires t c =
    (omega arith, asked-as _ _ c.args.place.now c.args.ask (took-seen (decide_view c.args.decide.now).0 (decide_view c.args.decide.now).1 c.args.tested.now _ _ _ c.in-Took.is refl) c.requires)

pub in_test-returns-in-Took-clause-ok : goal.in_test-returns-in-Took-clause-ok
in_test-returns-in-Took-clause-ok t c =
    moved-as _ _ _ _ c.args.place.now c.args.ask c.in_taken.result (took-seen (decide_view c.args.decide.now).0 (decide_view c.args.decide.now).1 c.args.tested.now _ _ _ c.in-Took.is refl)
    (took-seen (decide_view c.args.decide.now).0 (decide_view c.args.decide.now).1 _ _ _ _ refl refl) c.in_taken.ensures.ok

pub in_arms-in_opened-requires : goal.in_arms-in_opened-requires
in_arms-in_opened-requires t c =
    (omega arith, asked-as _ _ c.args.place.now c.args.ask (opened-seen (await_view c.args.waiting.now).0 (await_view c.args.waiting.now).1 c.args.gate.now _ _ _ _ _ c.in-Opened.is refl) c.requires)

pub in_arms-returns-in-Opened-clause-ok : goal.in_arms-returns-in-Opened-clause-ok
in_arms-returns-in-Opened-clause-ok t c =
    moved-as _ _ _ _ c.args.place.now c.args.ask c.in_opened.result (opened-seen (await_view c.args.waiting.now).0 (await_view c.args.waiting.now).1 c.args.gate.now _ _ _ _ _ c.in-Opened.is refl)
    (opened-seen (await_view c.args.waiting.now).0 (await_view c.args.waiting.now).1 _ _ _ _ _ _ refl refl) c.in_opened.ensures.ok

pub in_arms-returns-in-Opened-clause-err : goal.in_arms-returns-in-Opened-clause-err
in_arms-returns-in-Opened-clause-err t c =
    stays-as _ _ _ _ c.in_opened.result (opened-seen (await_view c.args.waiting.now).0 (await_view c.args.waiting.now).1 c.args.gate.now _ _ _ _ _ c.in-Opened.is refl)
    (opened-seen (await_view c.args.waiting.now).0 (await_view c.args.waiting.now).1 _ _ _ _ _ _ refl refl) c.in_opened.ensures.err
