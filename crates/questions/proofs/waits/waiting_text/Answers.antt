use Rattle.trace_file.specs.declared.fault.Fault.TheVariants.{Memory}
use Rattle.questions.proofs.public.Handing.{refused}
use Rattle.questions.proofs.waits.waiting_text.Goals as goal

pub returns-in_err-machine : goal.returns-in_err-machine
returns-in_err-machine c =
    refused c.from_residual.result c.in_err-machine.field-0.0 _ _ c.in_err-machine.ensures c.from_residual.ensures.1

pub returns-in_err-waiting_on : goal.returns-in_err-waiting_on
returns-in_err-waiting_on c =
    refused c.from_residual-in_err-waiting_on.result Memory _ _ tt c.from_residual-in_err-waiting_on.ensures.1

pub returns : goal.returns
returns c =
    let told = c.in_ok-waiting_on.ensures in
    (c.in_ok-machine.machine, told.0, c.in_ok-machine.ensures, told.1, told.2)
