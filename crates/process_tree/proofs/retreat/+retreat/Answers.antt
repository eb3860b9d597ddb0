-- A move taken back, by the child in which it was made.
use Rattle.std.proofs.Common.{◌<◌, ◌≤◌, vec_items, Some, option_map, length, map, refl, ◌∙◌, sym, ap, arith}
use Rattle.process_tree.specs.Proc.{sequence, parallel}
use Rattle.process_tree.specs.View.{repeat_view, decide_view, await_view, row_view, proc_view, out_view, procs_of, begun_of}
use Rattle.process_tree.specs.Retreated.{retreated_sequence, retreated_parallel}
use Rattle.process_tree.proofs.BackSteps.{parallel-back-somewhere, parallel-back, sequence-back-somewhere, sequence-back, back-asked, back-moved, unbegun-stays}
use Rattle.process_tree.proofs.public.Forms.{loop-seen, test-seen, arms-seen, sequence-seen, parallel-seen, turn-seen, took-seen, opened-seen, fresh-is, untested-is, unopened-is, asked-back-as, back-as, back-to-as, back-in-as}
use Rattle.process_tree.proofs.public.Steps.{none-is, branch-at, branch-set, branch-within, begun-at, begun-set}
use Rattle.process_tree.proofs.retreat.+retreat.Goals as goal

pub from_branch-retreat-requires : goal.from_branch-retreat-requires
from_branch-retreat-requires t c =
    let l : c.in-Some.number < length c.args.procs.now.items = omega (arith, c.in-Some-get_mut.ensures.variant.0 refl, c.args.procs.now.ok.0) in (
      omega (arith, c.in-Some.ensures.shorter),
      back-asked (procs_of (map proc_view c.args.procs.now.items)) c.in-Some.number c.in-Some.below.now (out_view c.args.out)
          (retreated_parallel 0 (procs_of (map proc_view c.args.procs.now.items)) c.args.place.now (out_view c.args.out)) (proc_view c.in-Some-get_mut.child.now)
          (parallel-back (procs_of (map proc_view c.args.procs.now.items)) c.args.place.now c.in-Some.number c.in-Some.below.now (out_view c.args.out) (sym c.in-Some.ensures.value) c.requires)
          (branch-at c.args.procs.now.items c.in-Some.number c.in-Some-get_mut.child.now l c.in-Some-get_mut.ensures.value),
    )

pub from_branch-returns-in-None : goal.from_branch-returns-in-None
from_branch-returns-in-None t c =
    absurd (parallel-back-somewhere (procs_of (map proc_view c.args.procs.now.items)) c.args.place.now (out_view c.args.out) (sym c.in-None.ensures.value) c.requires)

pub from_branch-returns-in-None-get_mut : goal.from_branch-returns-in-None-get_mut
from_branch-returns-in-None-get_mut t c =
    let m = parallel-back (procs_of (map proc_view c.args.procs.now.items)) c.args.place.now c.in-Some.number c.in-Some.below.now (out_view c.args.out) (sym c.in-Some.ensures.value) c.requires in
    let l = branch-within c.args.procs.now.items c.in-Some.number m.child.child m.child.is in
    absurd (none-is (c.in-None-get_mut.ensures.variant.1 (omega (arith, l, c.args.procs.now.ok.0))))

pub from_branch-returns-in-Some-get_mut : goal.from_branch-returns-in-Some-get_mut
from_branch-returns-in-Some-get_mut t c =
    let l : c.in-Some.number < length c.args.procs.now.items = omega (arith, c.in-Some-get_mut.ensures.variant.0 refl, c.args.procs.now.ok.0) in
    ap (option_map parallel) (back-moved (procs_of (map proc_view c.args.procs.now.items)) c.in-Some.number c.in-Some.below.now (out_view c.args.out)
    (retreated_parallel 0 (procs_of (map proc_view c.args.procs.now.items)) c.args.place.now (out_view c.args.out)) (proc_view c.in-Some-get_mut.child.now) (proc_view c.retreat.new.proc)
    (parallel-back (procs_of (map proc_view c.args.procs.now.items)) c.args.place.now c.in-Some.number c.in-Some.below.now (out_view c.args.out) (sym c.in-Some.ensures.value) c.requires)
    (branch-at c.args.procs.now.items c.in-Some.number c.in-Some-get_mut.child.now l c.in-Some-get_mut.ensures.value) c.retreat.ensures)
    ∙ ap (λ row. Some (parallel row)) (branch-set c.args.procs.now.items c.in-Some.number c.retreat.new.proc)

pub from_child-retreat-requires : goal.from_child-retreat-requires
from_child-retreat-requires t c =
    let l : c.in-Some.number < length c.args.begun.now.items = omega (arith, c.in-Some-get_mut.ensures.variant.0 refl, c.args.begun.now.ok.0) in (
      omega (arith, c.in-Some.ensures.shorter),
      back-asked (begun_of (map proc_view c.args.begun.now.items) (row_view c.args.row.now)) c.in-Some.number c.in-Some.below.now (out_view c.args.out)
          (retreated_sequence 0 (begun_of (map proc_view c.args.begun.now.items) (row_view c.args.row.now)) c.args.place.now (out_view c.args.out)) (proc_view c.in-Some-get_mut.child.now)
          (sequence-back (begun_of (map proc_view c.args.begun.now.items) (row_view c.args.row.now)) c.args.place.now c.in-Some.number c.in-Some.below.now (out_view c.args.out) (sym c.in-Some.ensures.value) c.requires)
          (begun-at c.args.begun.now.items (row_view c.args.row.now) c.in-Some.number c.in-Some-get_mut.child.now l c.in-Some-get_mut.ensures.value),
    )

pub from_child-returns-in-None : goal.from_child-returns-in-None
from_child-returns-in-None t c =
    absurd (sequence-back-somewhere (begun_of (map proc_view c.args.begun.now.items) (row_view c.args.row.now)) c.args.place.now (out_view c.args.out) (sym c.in-None.ensures.value) c.requires)

pub from_child-returns-in-None-get_mut : goal.from_child-returns-in-None-get_mut
from_child-returns-in-None-get_mut t c =
    let f : c.in-Some.number < c.args.begun.now.len → ⊥ = λ h. none-is (c.in-None-get_mut.ensures.variant.1 h) in
    let l : length c.args.begun.now.items ≤ c.in-Some.number = omega (arith, f, c.args.begun.now.ok.0) in
    ap (option_map sequence) (unbegun-stays c.args.begun.now.items (row_view c.args.row.now) c.in-Some.number c.in-Some.below.now (out_view c.args.out)
    (retreated_sequence 0 (begun_of (map proc_view c.args.begun.now.items) (row_view c.args.row.now)) c.args.place.now (out_view c.args.out)) l
    (sequence-back (begun_of (map proc_view c.args.begun.now.items) (row_view c.args.row.now)) c.args.place.now c.in-Some.number c.in-Some.below.now (out_view c.args.out) (sym c.in-Some.ensures.value) c.requires))

pub from_child-returns-in-Some-get_mut : goal.from_child-returns-in-Some-get_mut
from_child-returns-in-Some-get_mut t c =
    let l : c.in-Some.number < length c.args.begun.now.items = omega (arith, c.in-Some-get_mut.ensures.variant.0 refl, c.args.begun.now.ok.0) in
    ap (option_map sequence) (back-moved (begun_of (map proc_view c.args.begun.now.items) (row_view c.args.row.now)) c.in-Some.number c.in-Some.below.now (out_view c.args.out)
    (retreated_sequence 0 (begun_of (map proc_view c.args.begun.now.items) (row_view c.args.row.now)) c.args.place.now (out_view c.args.out)) (proc_view c.in-Some-get_mut.child.now)
    (proc_view c.retreat.new.proc)
    (sequence-back (begun_of (map proc_view c.args.begun.now.items) (row_view c.args.row.now)) c.args.place.now c.in-Some.number c.in-Some.below.now (out_view c.args.out) (sym c.in-Some.ensures.value) c.requires)
    (begun-at c.args.begun.now.items (row_view c.args.row.now) c.in-Some.number c.in-Some-get_mut.child.now l c.in-Some-get_mut.ensures.value) c.retreat.ensures)
    ∙ ap (λ row. Some (sequence row)) (begun-set c.args.begun.now.items (row_view c.args.row.now) c.in-Some.number c.retreat.new.proc l)

pub retreat-from_loop-requires : goal.retreat-from_loop-requires
retreat-from_loop-requires t c =
    (omega arith, asked-back-as _ _ c.args.place.now (out_view c.args.out) (loop-seen c.args.proc.now _ c.get.result.now _ _ c.in-Loop.is (c.get.ensures ∙ c.in-Loop.repeat-is) c.in-Loop.turns-is) c.requires)

pub retreat-returns-in-Loop : goal.retreat-returns-in-Loop
retreat-returns-in-Loop t c =
    back-as _ _ _ _ c.args.place.now (out_view c.args.out) (loop-seen c.args.proc.now _ c.get.result.now _ _ c.in-Loop.is (c.get.ensures ∙ c.in-Loop.repeat-is) c.in-Loop.turns-is)
    (loop-seen _ _ c.get.result.now c.from_loop.new.turns _ refl c.get.ensures refl) c.from_loop.ensures

pub retreat-from_test-requires : goal.retreat-from_test-requires
retreat-from_test-requires t c =
    (omega arith, asked-back-as _ _ c.args.place.now (out_view c.args.out) (test-seen c.args.proc.now _ c.get-in-Test.result.now _ _ c.in-Test.is (c.get-in-Test.ensures ∙ c.in-Test.decide-is) c.in-Test.tested-is) c.requires)

pub retreat-returns-in-Test : goal.retreat-returns-in-Test
retreat-returns-in-Test t c =
    back-as _ _ _ _ c.args.place.now (out_view c.args.out) (test-seen c.args.proc.now _ c.get-in-Test.result.now _ _ c.in-Test.is (c.get-in-Test.ensures ∙ c.in-Test.decide-is) c.in-Test.tested-is)
    (test-seen _ _ c.get-in-Test.result.now c.from_test.new.tested _ refl c.get-in-Test.ensures refl) c.from_test.ensures

pub retreat-from_arms-requires : goal.retreat-from_arms-requires
retreat-from_arms-requires t c =
    (omega arith, asked-back-as _ _ c.args.place.now (out_view c.args.out) (arms-seen c.args.proc.now _ c.get-in-Arms.result.now _ _ c.in-Arms.is (c.get-in-Arms.ensures ∙ c.in-Arms.waiting-is) c.in-Arms.gate-is) c.requires)

pub retreat-returns-in-Arms : goal.retreat-returns-in-Arms
retreat-returns-in-Arms t c =
    back-as _ _ _ _ c.args.place.now (out_view c.args.out) (arms-seen c.args.proc.now _ c.get-in-Arms.result.now _ _ c.in-Arms.is (c.get-in-Arms.ensures ∙ c.in-Arms.waiting-is) c.in-Arms.gate-is)
    (arms-seen _ _ c.get-in-Arms.result.now c.from_arms.new.gate _ refl c.get-in-Arms.ensures refl) c.from_arms.ensures

pub retreat-from_child-requires : goal.retreat-from_child-requires
retreat-from_child-requires t c =
    (omega arith, asked-back-as _ _ c.args.place.now (out_view c.args.out) (sequence-seen c.args.proc.now _ c.get-in-Sequence.result.now _ _ c.in-Sequence.is (c.get-in-Sequence.ensures ∙ c.in-Sequence.row-is) (ap vec_items c.in-Sequence.begun-is)) c.requires)

pub retreat-returns-in-Sequence : goal.retreat-returns-in-Sequence
retreat-returns-in-Sequence t c =
    back-as _ _ _ _ c.args.place.now (out_view c.args.out) (sequence-seen c.args.proc.now _ c.get-in-Sequence.result.now _ _ c.in-Sequence.is (c.get-in-Sequence.ensures ∙ c.in-Sequence.row-is) (ap vec_items c.in-Sequence.begun-is))
    (sequence-seen _ _ c.get-in-Sequence.result.now c.from_child.new.begun _ refl c.get-in-Sequence.ensures refl) c.from_child.ensures

pub retreat-from_branch-requires : goal.retreat-from_branch-requires
retreat-from_branch-requires t c =
    (omega arith, asked-back-as _ _ c.args.place.now (out_view c.args.out) (parallel-seen c.args.proc.now _ _ c.in-Parallel.is (ap vec_items c.in-Parallel.procs-is)) c.requires)

pub from_loop-from_turn-requires : goal.from_loop-from_turn-requires
from_loop-from_turn-requires t c =
    (omega arith, asked-back-as _ _ c.args.place.now (out_view c.args.out) (turn-seen (repeat_view c.args.repeat.now).0 (repeat_view c.args.repeat.now).1 c.args.turns.now _ _ _ _ c.in-Turn.is refl) c.requires)

pub from_loop-returns-then-from_turn : goal.from_loop-returns-then-from_turn
from_loop-returns-then-from_turn t c =
    back-to-as _ _ _ _ _ c.from_turn.result c.args.place.now (out_view c.args.out) (turn-seen (repeat_view c.args.repeat.now).0 (repeat_view c.args.repeat.now).1 c.args.turns.now _ _ _ _ c.in-Turn.is refl)
    (fresh-is (repeat_view c.args.repeat.now).0 (repeat_view c.args.repeat.now).1) c.if-from_turn.true c.from_turn.ensures

pub from_loop-returns-else-from_turn : goal.from_loop-returns-else-from_turn
from_loop-returns-else-from_turn t c =
    back-in-as _ _ _ _ _ c.from_turn.result c.args.place.now (out_view c.args.out) (turn-seen (repeat_view c.args.repeat.now).0 (repeat_view c.args.repeat.now).1 c.args.turns.now _ _ _ _ c.in-Turn.is refl)
    (turn-seen (repeat_view c.args.repeat.now).0 (repeat_view c.args.repeat.now).1 _ _ _ _ _ refl refl) c.if-from_turn.false c.from_turn.ensures

pub from_test-from_taken-requires : goal.from_test-from_taken-requires
from_test-from_taken-requires t c =
    (omega arith, asked-back-as _ _ c.args.place.now (out_view c.args.out) (took-seen (decide_view c.args.decide.now).0 (decide_view c.args.decide.now).1 c.args.tested.now _ _ _ c.in-Took.is refl) c.requires)

pub from_test-returns-then-from_taken : goal.from_test-returns-then-from_taken
from_test-returns-then-from_taken t c =
    back-to-as _ _ _ _ _ c.from_taken.result c.args.place.now (out_view c.args.out) (took-seen (decide_view c.args.decide.now).0 (decide_view c.args.decide.now).1 c.args.tested.now _ _ _ c.in-Took.is refl)
    (untested-is (decide_view c.args.decide.now).0 (decide_view c.args.decide.now).1) c.if-from_taken.true c.from_taken.ensures

pub from_test-returns-else-from_taken : goal.from_test-returns-else-from_taken
from_test-returns-else-from_taken t c =
    back-in-as _ _ _ _ _ c.from_taken.result c.args.place.now (out_view c.args.out) (took-seen (decide_view c.args.decide.now).0 (decide_view c.args.decide.now).1 c.args.tested.now _ _ _ c.in-Took.is refl)
    (took-seen (decide_view c.args.decide.now).0 (decide_view c.args.decide.now).1 _ _ _ _ refl refl) c.if-from_taken.false c.from_taken.ensures

pub from_arms-from_opened-requires : goal.from_arms-from_opened-requires
from_arms-from_opened-requires t c =
    (omega arith, asked-back-as _ _ c.args.place.now (out_view c.args.out) (opened-seen (await_view c.args.waiting.now).0 (await_view c.args.waiting.now).1 c.args.gate.now _ _ _ _ _ c.in-Opened.is refl) c.requires)

pub from_arms-returns-then-from_opened : goal.from_arms-returns-then-from_opened
from_arms-returns-then-from_opened t c =
    back-to-as _ _ _ _ _ c.from_opened.result c.args.place.now (out_view c.args.out) (opened-seen (await_view c.args.waiting.now).0 (await_view c.args.waiting.now).1 c.args.gate.now _ _ _ _ _ c.in-Opened.is refl)
    (unopened-is (await_view c.args.waiting.now).0 (await_view c.args.waiting.now).1) c.if-from_opened.true c.from_opened.ensures

pub from_arms-returns-else-from_opened : goal.from_arms-returns-else-from_opened
from_arms-returns-else-from_opened t c =
    back-in-as _ _ _ _ _ c.from_opened.result c.args.place.now (out_view c.args.out) (opened-seen (await_view c.args.waiting.now).0 (await_view c.args.waiting.now).1 c.args.gate.now _ _ _ _ _ c.in-Opened.is refl)
    (opened-seen (await_view c.args.waiting.now).0 (await_view c.args.waiting.now).1 _ _ _ _ _ _ refl refl) c.if-from_opened.false c.from_opened.ensures
