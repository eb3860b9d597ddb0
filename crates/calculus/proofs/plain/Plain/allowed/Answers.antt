use Rattle.calculus.specs.ResidualTree.{state_of}
use Rattle.calculus.proofs.Replayed.{listed}
use Rattle.calculus.proofs.plain.Plain.allowed.Goals as goal

pub returns-clause-listed : goal.returns-clause-listed
returns-clause-listed c = λ w. listed (state_of c.args.self.now) c.events_offered.result w c.events_offered.ensures
