-- Children that were passed are finished.
use Rattle.std.proofs.Common.{◌≡◌, ◌+◌, ◌≤◌, ◌∙◌, min, false, true, length, drop, map, sym, ap, subst, rules, arith}
use Rattle.std.proofs.lemmas.List.{drop_all}
use Rattle.process_tree.specs.View.{proc_view, procs_of}
use Rattle.local_actions.specs.internal.Listed.{listed_parallel}
use Rattle.local_actions.specs.internal.Over.{AllOver}
use Rattle.local_actions.proofs.public.Begun.{begun-row}
use Rattle.local_actions.proofs.public.Passing.{proc-next}
use Rattle.local_actions.proofs.public.Endings.{proc-once-over, test-is-over, over-none, over-more, over-not, begun-has, begun-has-none, row-has, row-has-none, row-some, row-end, came-more, all-passed, one-left, parallel-over}
use Rattle.local_actions.proofs.over.+over.Goals as goal

pub over-returns-in-Once : goal.over-returns-in-Once
over-returns-in-Once t c s env = proc-once-over s env c.args.proc.now _ c.in-Once.made c.in-Once.is

pub test_over-returns-in-Took : goal.test_over-returns-in-Took
test_over-returns-in-Took t c s env d cs = test-is-over s env d cs c.args.tested.now _ c.in-Took.body c.deref.result.now _ c.in-Took.is c.deref.ensures (c.over.ensures s env)

pub all_over-returns-then-not-over : goal.all_over-returns-then-not-over
all_over-returns-then-not-over t c =
    let is : c.over.result ≡ false = first_of (cc, search rules) in
    c.loop-child.invariant false (subst (AllOver false) (sym (proc-next c.args.procs.now c.loop-child.child-index c.child-item.result (omega arith) c.child-item.is))
    (over-not (proc_view c.child-item.result) (procs_of (map proc_view (drop (c.loop-child.child-index + 1) c.args.procs.now))) (λ s env. sym (c.over.ensures s env) ∙ is)))

pub all_over-loop-child-preserved : goal.all_over-loop-child-preserved
all_over-loop-child-preserved t c =
    let is : c.over.result ≡ true = first_of (cc, search rules) in
    λ b h. c.loop-child.invariant b (subst (AllOver b) (sym (proc-next c.args.procs.now c.loop-child.child-index c.child-item.result (omega arith) c.child-item.is))
    (over-more b (proc_view c.child-item.result) (procs_of (map proc_view (drop (c.loop-child.child-index + 1) c.args.procs.now))) (λ s env. sym (c.over.ensures s env) ∙ is) h))

pub all_over-returns : goal.all_over-returns
all_over-returns t c =
    let past : length c.args.procs.now ≤ c.loop-child.child-index = omega arith in
    c.loop-child.invariant true (subst (λ ps. AllOver true (procs_of (map proc_view ps))) (sym (drop_all c.loop-child.child-index c.args.procs.now past)) over-none)

pub child_over-returns-then-child-min-clause-over : goal.child_over-returns-then-child-min-clause-over
child_over-returns-then-child-min-clause-over t c =
    let e : c.min.result ≡ min (length c.args.begun.now) (length c.args.row.now.codes) = first_of (omega arith, cc, search rules) in
    begun-has c.args.begun.now c.args.row.now c.args.child c.index-begun-child.result c.over.result (omega (arith, e)) (omega (arith, e)) c.index-begun-child.is c.over.ensures

pub child_over-returns-then-child-min-clause-open_ : goal.child_over-returns-then-child-min-clause-open_
child_over-returns-then-child-min-clause-open_ t c =
    let e : c.min.result ≡ min (length c.args.begun.now) (length c.args.row.now.codes) = first_of (omega arith, cc, search rules) in
    begun-has-none c.args.begun.now c.args.row.now c.args.child c.index-begun-child.result c.over.result (omega (arith, e)) (omega (arith, e)) c.index-begun-child.is c.over.ensures

pub child_over-returns-clause-over : goal.child_over-returns-clause-over
child_over-returns-clause-over t c =
    let e : c.min.result ≡ min (length c.args.begun.now) (length c.args.row.now.codes) = first_of (omega arith, cc, search rules) in
    λ h. row-has c.args.begun.now c.args.row.now c.as_slice.result.now c.args.child (omega (arith, e)) c.as_slice.ensures (c.command_over.ensures.over h)

pub child_over-returns-clause-open_ : goal.child_over-returns-clause-open_
child_over-returns-clause-open_ t c =
    let e : c.min.result ≡ min (length c.args.begun.now) (length c.args.row.now.codes) = first_of (omega arith, cc, search rules) in
    λ h. row-has-none c.args.begun.now c.args.row.now c.as_slice.result.now c.args.child (omega (arith, e)) c.as_slice.ensures (c.command_over.ensures.open_ h)

pub over-returns-in-Parallel : goal.over-returns-in-Parallel
over-returns-in-Parallel t c s env = c.all_over.ensures s env 0 ∙ ap (λ xs. (listed_parallel s env 0 (procs_of (map proc_view xs))).over) c.as_slice-in-Parallel.ensures.value ∙ parallel-over s env c.args.proc.now _ c.in-Parallel.is

pub sequence_over-returns-then-not-child_over : goal.sequence_over-returns-then-not-child_over
sequence_over-returns-then-not-child_over t c s env =
    let is : c.child_over.result ≡ false = first_of (cc, search rules) in
    let there = row-some c.args.begun.now c.args.row.now c.children.number (omega arith) in
    one-left s env (begun-row c.args.begun.now c.args.row.now) c.children.number there.0 there.1 (c.child_over.ensures.open_ is) c.children.invariant

pub sequence_over-children-preserved : goal.sequence_over-children-preserved
sequence_over-children-preserved t c =
    let is : c.child_over.result ≡ true = first_of (cc, search rules) in
    came-more c.children.number (c.children.number + 1) (begun-row c.args.begun.now c.args.row.now) (omega arith) (c.child_over.ensures.over is) c.children.invariant

pub sequence_over-returns : goal.sequence_over-returns
sequence_over-returns t c s env =
    all-passed s env (begun-row c.args.begun.now c.args.row.now) c.children.number (row-end c.args.begun.now c.args.row.now c.children.number (omega arith)) c.children.invariant
