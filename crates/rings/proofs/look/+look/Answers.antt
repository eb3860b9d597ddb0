-- Child by child, from the last.
use Rattle.std.proofs.Common.{◌≡◌, ℕ, ◌+◌, ◌-◌, ◌<◌, ◌≤◌, length, arith}
use Rattle.std.proofs.lemmas.Result.{IfOk-weaker}
use Rattle.address.specs.declared.Entry.TheVariants.{Branch}
use Rattle.process_tree.specs.View.{await_view, proc_view}
use Rattle.local_actions.proofs.public.Begun.{begun-row}
use Rattle.local_actions.proofs.public.Endings.{row-end, row-some}
use Rattle.rings.specs.internal.Ends.{line_sum, line_tail, proc_sum, sum_of}
use Rattle.rings.proofs.Rows.{begun-sum-at, branched, fresh-sum-at, opened-sum, procs-behind, procs-branch, procs-end, procs-last, procs-no-tail, procs-turn}
use Rattle.rings.proofs.look.+look.Goals as goal

pub look_sequence-children-init : goal.look_sequence-children-init
look_sequence-children-init t c =
    let last = row-end c.args.begun.now c.args.row.now c.len-number.result (omega arith) in (
      omega arith,
      procs-end c.args.wanted.now (begun-row c.args.begun.now c.args.row.now) c.len-number.result last,
      procs-no-tail c.args.wanted.now (begun-row c.args.begun.now c.args.row.now) c.len-number.result last,
    )

pub look_sequence-children-preserved : goal.look_sequence-children-preserved
look_sequence-children-preserved t c =
    let i : ℕ = c.children.number - 1 in
    let upto : c.children.number ≤ length c.args.row.now.codes = c.children.invariant.0 in
    let next : c.children.number ≡ i + 1 = omega arith in
    let less : i < length c.args.row.now.codes = omega arith in
    let there = row-some c.args.begun.now c.args.row.now i less in (
      omega arith,
      procs-turn c.args.wanted.now (begun-row c.args.begun.now c.args.row.now) i c.children.number there.0 c.in_ok-entry.entry (sum_of c.in_ok-child.child)
          (line_sum c.children.line) _ (line_tail c.children.line) next there.1 c.in_ok-entry.ensures c.children.invariant.1 c.children.invariant.2 c.in_ok-child.ensures
          c.in_ok-line.ensures.sum,
      procs-behind c.args.wanted.now (begun-row c.args.begun.now c.args.row.now) i c.children.number there.0 (sum_of c.in_ok-child.child) (line_tail c.children.line) _ next
          there.1 c.children.invariant.2 c.in_ok-child.ensures c.in_ok-line.ensures.behind,
    )

pub look_parallel-children-init : goal.look_parallel-children-init
look_parallel-children-init t c = (omega arith, procs-last c.args.wanted.now c.args.procs.now (length c.args.procs.now) (omega arith))

pub look_parallel-children-preserved : goal.look_parallel-children-preserved
look_parallel-children-preserved t c =
    let i : ℕ = c.children.number - 1 in
    let upto : c.children.number ≤ length c.args.procs.now = c.children.invariant.0 in
    let next : c.children.number ≡ i + 1 = omega arith in
    let less : i < length c.args.procs.now = omega arith in (
      omega arith,
      procs-branch c.args.wanted.now c.args.procs.now i c.children.number c.index-procs-number.result (sum_of c.children.found) _ next less
          c.index-procs-number.is c.children.invariant.1
          (branched (proc_sum c.args.wanted.now (proc_view c.index-procs-number.result)) (Branch i) c.in_ok-entry.entry (sum_of c.in_ok-child.child) (sum_of c.children.found) _
          c.in_ok-entry.ensures c.in_ok-child.ensures c.in_ok-found.ensures),
    )

pub look_gate-returns-in-Opened : goal.look_gate-returns-in-Opened
look_gate-returns-in-Opened t c =
    IfOk-weaker c.look_opened.result _ _ (λ x h. opened-sum c.args.wanted.now (await_view c.args.waiting.now).0 (await_view c.args.waiting.now).1 c.in-Opened.channel _
    c.in-Opened.over c.args.gate.now c.in-Opened.body c.deref.result.now (sum_of x) c.in-Opened.is c.deref.ensures h)
    (c.look_opened.ensures (await_view c.args.waiting.now).0 (await_view c.args.waiting.now).1 _)

pub look_number-returns-then-number-begun : goal.look_number-returns-then-number-begun
look_number-returns-then-number-begun t c =
    IfOk-weaker c.look.result _ _ (λ x h. begun-sum-at c.args.wanted.now c.args.begun.now c.args.row.now c.args.number c.index-begun-number.result
    (sum_of x) (omega arith) c.requires c.index-begun-number.is h) c.look.ensures

pub look_number-returns : goal.look_number-returns
look_number-returns t c =
    IfOk-weaker c.look_fresh.result _ _ (λ x h. fresh-sum-at c.args.wanted.now c.args.begun.now c.args.row.now c.args.number c.as_slice.result.now c.index-as_slice-number.result
    (sum_of x) (omega arith) c.as_slice.ensures c.requires c.index-as_slice-number.is h) c.look_fresh.ensures
