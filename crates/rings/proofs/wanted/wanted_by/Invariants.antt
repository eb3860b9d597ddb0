use Rattle.std.proofs.Common.{◌≡◌, ◌⊎◌, drop, true, Some}
use Rattle.syntax.specs.Lists.{In}
use Rattle.local_actions.specs.declared.action.LocalAction.{LocalAction}
use Rattle.rings.specs.Partners.{sought_by}
use Rattle.rings.specs.declared.sought.Sought.{Sought}
use Rattle.rings.specs.internal.Ends.{channel_of, wants}
use Rattle.rings.proofs.wanted.wanted_by.Given as goal

abbrev pub invariant-loop-action : goal.invariant-loop-action
invariant-loop-action l =
    (x : LocalAction) (s : Sought) → In x l.actions → sought_by x.action ≡ Some s
    → (wants l.wanted.items (channel_of s) ≡ true) ⊎ In x (drop l.action-index l.actions)
