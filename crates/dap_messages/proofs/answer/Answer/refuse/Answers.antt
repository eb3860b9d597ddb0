use Rattle.std.proofs.Common.{inl, inr, refl}
use Rattle.dap_messages.proofs.answer.Answer.refuse.Goals as goal

pub returns-in-Ok-clause-says : goal.returns-in-Ok-clause-says
returns-in-Ok-clause-says c = (c.in-Ok.words, refl, inl (c.in-Ok.ensures.ok, refl))

pub returns-in-Err-clause-says : goal.returns-in-Err-clause-says
returns-in-Err-clause-says c = (c.new.result, refl, inr refl)
