use Rattle.std.proofs.Common.{ap, inl, inr, refl, sym, ◌∙◌}
use Rattle.std.specs.Prelude.{is_some}
use Rattle.dap.proofs.asked.launch_of.Goals as goal

pub returns-in-Some : goal.returns-in-Some
returns-in-Some c =
    inr (104, c.refuse_type.ensures, inl (refl, sym c.wrong_in.ensures ∙ ap (λ o. is_some o) c.in-Some.is))

pub right_launch-requires : goal.right_launch-requires
right_launch-requires c = sym c.wrong_in.ensures ∙ ap (λ o. is_some o) c.in-None.is
