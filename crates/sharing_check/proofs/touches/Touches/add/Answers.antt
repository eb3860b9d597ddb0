-- Where the variable was touched before, its entry has both parts.
use Rattle.std.proofs.Common.{◌≡◌, ◌∙◌, Some, ap, refl, sym, subst}
use Rattle.std.specs.Option.{option_copied_mut}
use Rattle.sharing_check.specs.internal.Crossing.{with_touched}
use Rattle.sharing_check.proofs.TableSteps.{added_in_place}
use Rattle.sharing_check.proofs.touches.Touches.add.Goals as goal

pub returns-in-Some-clause-added : goal.returns-in-Some-clause-added
returns-in-Some-clause-added c =
    let new = (c.get_mut.follows.lender c.with.result).entries in
    let found = sym c.get_mut.ensures.value ∙ ap option_copied_mut c.in-Some.is in
    subst (λ t. new ≡ with_touched t c.args.variable c.args.touched) c.self.view_is
    (added_in_place c.self.inside.by_variable.entries new c.args.variable c.args.touched c.in-Some.held.now c.with.result (Some c.in-Some.held.now)
    (c.get_mut.follows.holds c.with.result).0 c.with.ensures (sym found) refl)
