use Rattle.std.proofs.Common.{Bool, None, Some, sym, ap}
use Rattle.dap_requests.specs.Forth.{alone}
use Rattle.dap_requests.proofs.Forward.{goes_back_by}
use Rattle.dap_requests.proofs.backward.rewind_in.Goals as goal

pub returns-then-single-clause-back : goal.returns-then-single-clause-back
returns-then-single-clause-back c =
    goes_back_by (Some c.args.branch) (alone c.args.branch c.args.single) _ _ _ _ c.args.desk.now c.rewind_branch.new.desk c.rewind_branch.result
    c.rewind_branch.new.kept.items (ap (λ (b : Bool). alone c.args.branch b) (sym c.if-single.true)) c.as_slice.ensures.value
    c.as_slice-2.ensures.value c.rewind_branch.ensures.back

pub returns-else-single-clause-back : goal.returns-else-single-clause-back
returns-else-single-clause-back c =
    goes_back_by None (alone c.args.branch c.args.single) _ _ _ _ c.args.desk.now c.rewind.new.desk c.rewind.result c.rewind.new.kept.items
    (ap (λ (b : Bool). alone c.args.branch b) (sym c.if-single.false)) c.as_slice.ensures.value c.as_slice-2.ensures.value c.rewind.ensures.back
