use Rattle.std.proofs.Common.{None, refl, subst, sym}
use Rattle.dap_messages.specs.Notes.{IsDone}
use Rattle.dap_messages.specs.declared.answer.Outcome.{Outcome}
use Rattle.dap_messages.specs.declared.told.Told.{Told}
use Rattle.dap_requests.proofs.public.Saying.{tells_one}
use Rattle.dap.proofs.Stopping.{tells_last}
use Rattle.dap.proofs.face.keep.Goals as goal

pub returns-clause-done : goal.returns-clause-done
returns-clause-done c = subst (λ (o : Outcome). IsDone o) (sym c.tell.ensures.outcome) tt

pub returns-clause-tells : goal.returns-clause-tells
returns-clause-tells c = tells_last _ c.tell.new.self Told.Initialized None refl c.tell.ensures

pub returns-clause-behind : goal.returns-clause-behind
returns-clause-behind c = tells_one _ c.tell.new.self Told.Initialized None c.tell.ensures
