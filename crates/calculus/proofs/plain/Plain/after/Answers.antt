use Rattle.calculus.specs.ResidualTree.{state_of}
use Rattle.calculus.proofs.Replayed.{stepped}
use Rattle.calculus.proofs.plain.Plain.after.Goals as goal

pub returns-clause-step : goal.returns-clause-step
returns-clause-step c = λ w. stepped (state_of c.args.self.now) c.args.event.now c.step.result w c.step.ensures
