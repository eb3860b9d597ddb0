use Rattle.front_end.specs.Accepting.{IsRefused}
use Rattle.front_end.specs.Wrapping.{of_sharing}
use Rattle.front_end.proofs.AcceptLemmas.{unshared, told}
use Rattle.front_end.proofs.acceptance.checked.Goals as goal

pub returns-in_err-check_sharing-in-Ok-clause-fault : goal.returns-in_err-check_sharing-in-Ok-clause-fault
returns-in_err-check_sharing-in-Ok-clause-fault c source typed =
    told c.from_residual.result (of_sharing c.in_err-check_sharing-in-Ok.field-0.0)
    (λ fault. IsRefused source c.args.stimulus.now fault) c.from_residual.ensures.1
    (unshared source c.args.stimulus.now c.in-Ok.system c.in_err-check_sharing-in-Ok.field-0.0
    (c.args.typed.now, typed, c.in-Ok.ensures.system)
    c.in_err-check_sharing-in-Ok.ensures.refused)
