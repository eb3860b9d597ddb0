use Rattle.std.proofs.Common.{◌≡◌, refl}
use Rattle.std.proofs.lemmas.Result.{IfOk-weaker}
use Rattle.runs.specs.Does.{Does}
use Rattle.runs.specs.Commands.{Command, Reply}
use Rattle.machine.specs.internal.Histories.{execution}
use Rattle.machine.proofs.Stepped.{in-vec}
use Rattle.machine.proofs.history.History.tell_live.Goals as goal

pub returns : goal.returns
returns c = λ system.
    let o = execution system c.args.self.now in
    in-vec (λ l. Does o Command.Live (Reply.Live l) o) c.copy_live.result c.in_vec.result
    (IfOk-weaker c.copy_live.result (λ l. l ≡ c.args.self.now.live.live) (λ l. Does o Command.Live (Reply.Live l) o) (λ l is. (is, refl)) c.copy_live.ensures)
    c.in_vec.ensures
