use Rattle.dap.specs.Unlaunched.{AreUnaccepted, IsOfTexts}
use Rattle.dap.proofs.Refusing.{fails_weaker}
use Rattle.dap.proofs.launch.checked.Goals as goal

pub returns-in-Err : goal.returns-in-Err
returns-in-Err c =
    fails_weaker (IsOfTexts c.in-Err.fault) (AreUnaccepted c.args.source.now c.args.stimulus.now) c.refused.result c.refused.new.answer
    (λ n it. (c.in-Err.fault, c.in-Err.ensures.fault, it)) c.refused.ensures
