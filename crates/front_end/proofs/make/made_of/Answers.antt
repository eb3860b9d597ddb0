use Rattle.front_end.proofs.MakingLemmas as making
use Rattle.front_end.proofs.make.made_of.Goals as goal

pub returns-clause-system : goal.returns-clause-system
returns-clause-system c =
    making.made_of c.args.typed.now c.args.text.now c.args.stimulus.now.entries c.elaborate.result c.requires c.elaborate.ensures.system
    c.elaborate.ensures.accepted

pub returns-clause-fault : goal.returns-clause-fault
returns-clause-fault c =
    making.unmade_of c.args.typed.now c.args.text.now c.args.stimulus.now.entries c.elaborate.result c.requires c.elaborate.ensures.fault
