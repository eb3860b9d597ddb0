use Rattle.std.proofs.lemmas.Result.{IfOk-weaker}
use Rattle.rings.proofs.Places.{tells}
use Rattle.rings.proofs.ring.ring_among.Goals as goal

pub returns-clause-ring : goal.returns-clause-ring
returns-clause-ring c = λ r help given told.
    IfOk-weaker c.ring_of_indexes.result _ _ (λ ring h. tells r help c.args.actions.now c.args.partners.now c.args.marks.now given told ring.items h) c.ring_of_indexes.ensures.ring
