use Rattle.std.proofs.Common.{Some}
use Rattle.dap.specs.Unlaunched.{IsOfTrace, IsUnloaded}
use Rattle.dap.proofs.Refusing.{fails_weaker}
use Rattle.dap.proofs.launch.loaded.Goals as goal

pub returns-in-Err : goal.returns-in-Err
returns-in-Err c =
    fails_weaker (IsOfTrace c.in-Err.fault) (IsUnloaded c.args.checked (Some c.args.trace.now)) c.refuse_trace.result c.refuse_trace.new.answer
    (λ n it. (c.in-Err.fault, c.in-Err.ensures, it)) c.refuse_trace.ensures
