use Rattle.std.proofs.Common.{◌∙◌, Some, List, Bool, length, ap}
use Rattle.waiting.specs.Input.{is_helped}
use Rattle.rings.specs.Partners.{partner_in}
use Rattle.waiting.proofs.HelpsEach.{helps-are, helps-length}
use Rattle.waiting.proofs.waiting.deadlocked_of.Goals as goal

pub returns : goal.returns
returns c = λ r given.
    c.deadlocked_among.ensures r (λ x. is_helped c.args.machine.now x (Some (partner_in r x))) given
    (c.as_slice.ensures.value ∙ c.in_ok-helped.ensures ∙ helps-are c.args.machine.now r c.args.partners.now c.args.actions.now given)

pub deadlocked_among-requires-clause-helped : goal.deadlocked_among-requires-clause-helped
deadlocked_among-requires-clause-helped c =
    ap (λ (bs : List Bool). length bs) (c.as_slice.ensures.value ∙ c.in_ok-helped.ensures) ∙ helps-length c.args.machine.now c.args.partners.now 0 c.args.actions.now
