use Rattle.std.proofs.Common.{◌≡◌, [], Some, inr, rules}
use Rattle.elaborate.specs.Elaboration.{root_ports}
use Rattle.elaborate.specs.Fit.{first_misfit}
use Rattle.elaborate.proofs.MisfitLemmas.{misfit_stands}
use Rattle.elaborate.proofs.front.refuse_front.Goals as goal

pub returns-in-Some-clause-fault : goal.returns-in-Some-clause-fault
returns-in-Some-clause-fault c =
    let misfit : first_misfit (root_ports c.args.typed.now) [] c.args.front.now.entries ≡ Some c.in-Some.line = search rules in
    inr (λ later. misfit_stands (root_ports c.args.typed.now) [] c.args.front.now.entries later c.in-Some.line misfit)
