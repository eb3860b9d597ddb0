use Rattle.std.proofs.Common.{◌∙◌}
use Rattle.calculus.proofs.Walking.{found_all, answered_equal}
use Rattle.calculus.proofs.allowed.events_offered.Goals as goal

pub returns : goal.returns
returns c =
    answered_equal c.events_among.result _ _
    (found_all c.args.state.now _ _ _ _ _ _ c.as_slice-values.ensures.value c.get.ensures
    (c.from_vec-root.ensures ∙ c.new.ensures.items) c.new-offers.ensures c.in_ok-add_offers.ensures c.as_slice.ensures)
    c.events_among.ensures
