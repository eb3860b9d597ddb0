use Rattle.std.proofs.Common.{subst}
use Rattle.runs.specs.Sound.{Sound}
use Rattle.machine.specs.AtMachine.{AtMachine, object}
use Rattle.machine.proofs.public.HeadlineLaws.{headline}
use Rattle.machine.proofs.machine.Machine.is_sound.Goals as goal

pub returns : goal.returns
returns c = headline (object c.args.self.now) (subst (λ (h : AtMachine). Sound (object h)) c.self.view_is c.self.invariant.0.sound)
