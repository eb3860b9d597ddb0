-- Children, put together one by one.
use Rattle.std.proofs.Common.{◌≡◌, min, length, ap, arith, rules}
use Rattle.std.proofs.lemmas.Result.{IfOk-weaker}
use Rattle.rendezvous.proofs.Rows.{procs_made, begun_made}
use Rattle.rendezvous.proofs.process.+tree_of.Goals as goal

pub left_of_parallel-returns : goal.left_of_parallel-returns
left_of_parallel-returns t c =
    IfOk-weaker c.in_parallel.result _ _
    (λ made h. procs_made c.args.received.now c.args.procs.now c.in_ok-children.children made c.in_ok-children.ensures h)
    c.in_parallel.ensures

pub left_of_sequence-returns : goal.left_of_sequence-returns
left_of_sequence-returns t c =
    let e : c.min-end.result ≡ min (length c.args.begun.now) (length c.args.row.now.codes) = first_of (omega arith, cc, search rules) in
    let codes : c.as_slice-codes.result.now ≡ c.args.row.now.codes = c.as_slice-codes.ensures in
    let same : length c.as_slice-codes.result.now ≡ length c.args.row.now.codes = ap length codes in
    IfOk-weaker c.in_sequence.result _ _
    (λ made h. begun_made c.args.received.now c.args.begun.now c.args.row.now c.as_slice-codes.result.now c.min-end.result _ c.in_ok-children.children c.add_others.new.lefts made
    codes e (omega (arith, e, same)) c.in_ok-children.ensures c.in_ok-add_others.ensures h)
    c.in_sequence.ensures
