use Rattle.std.proofs.Common.{refl, subst}
use Rattle.runs.specs.Does.{Answers}
use Rattle.runs.specs.Commands.{Command}
use Rattle.machine.specs.AtMachine.{AtMachine, object}
use Rattle.machine.specs.Results.{live_reply}
use Rattle.machine.specs.internal.Histories.{execution}
use Rattle.machine.proofs.Stepped.{told-of}
use Rattle.machine.proofs.machine.Machine.live.Goals as goal

pub returns : goal.returns
returns c =
    let o = execution c.self.inside.system c.self.inside.history in
    subst (λ (h : AtMachine). Answers (object h) Command.Live (live_reply c.or_no_memory.result) (object h)) c.self.view_is
    (told-of o Command.Live live_reply c.tell_live.result c.or_no_memory.result refl (c.tell_live.ensures c.self.inside.system) tt c.or_no_memory.ensures)
