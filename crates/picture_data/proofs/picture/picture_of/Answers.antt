use Rattle.std.proofs.Common.{◌∙◌, ℕ, List, sym, subst}
use Rattle.picture_data.specs.Shown.{HasDepths}
use Rattle.picture_data.proofs.Whole.{shows_all}
use Rattle.picture_data.proofs.picture.picture_of.Goals as goal

pub end_of-requires : goal.end_of-requires
end_of-requires c =
    subst (λ (ds : List ℕ). HasDepths c.args.machine.now.live ds) (sym c.as_slice-2.ensures.value)
    (c.in_ok-steps.ensures.shown.depths, c.in_ok-steps.ensures.small)

pub returns : goal.returns
returns c =
    shows_all c.args.machine.now c.args.procedures.now c.system.result.now c.in_ok-ground.ground _ c.as_slice.result.now c.as_slice-2.result.now
    (c.system.ensures ∙ c.checked.ensures) c.in_ok-ground.ensures c.into_vec.ensures (c.into_vec-2.ensures ∙ c.into_lanes.ensures)
    c.into_vec-3.ensures c.as_slice.ensures c.as_slice-2.ensures.value c.in_ok-steps.ensures.shown c.in_ok-end.ensures
