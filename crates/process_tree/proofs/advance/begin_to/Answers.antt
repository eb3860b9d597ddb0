-- One child more.
use Rattle.std.proofs.Common.{◌≡◌, Some, length, map, slice_get, ◌∙◌, sym, ap, subst, arith}
use Rattle.process_tree.specs.View.{row_view, proc_view, begun_of}
use Rattle.process_tree.proofs.public.Steps.{begun-more, begun-in-row, get-past}
use Rattle.process_tree.proofs.advance.begin_to.Goals as goal

pub children-preserved : goal.children-preserved
children-preserved c =
    let n : c.len-in-children.result ≡ length c.children.begun.items = omega arith in
    ap (λ xs. begun_of (map proc_view xs) (row_view c.args.row.now)) c.in_ok-push-in-Some.ensures.items
    ∙ begun-more c.children.begun.items c.args.row.now c.in_ok-start-in-Some.field-0 c.in-Some.code.now
    (subst (λ n. slice_get c.args.row.now.codes n ≡ Some c.in-Some.code.now) n (sym c.in-Some.ensures.value)) c.in_ok-start-in-Some.ensures
    ∙ c.children.invariant

pub returns-in-None-clause-ok : goal.returns-in-None-clause-ok
returns-in-None-clause-ok c = λ h.
    omega (arith, begun-in-row c.args.begun.now.items c.args.row.now c.args.number h, get-past c.args.row.now.codes c.len-in-children.result (sym c.in-None.ensures.value))
