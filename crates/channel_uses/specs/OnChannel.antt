-- The partners on a channel, and the law that a process offers none on a channel that its command does not use.
use Rattle.std.specs.Prelude.{◌≡◌, ℕ, ◌==◌, List, [], ◌∷◌, Bool, false, cond}
use Rattle.syntax.specs.Lists.{In}
use Rattle.system.specs.Expression.{Store}
use Rattle.process_tree.specs.Code.{Code}
use Rattle.process_tree.specs.Proc.{Proc}
use Rattle.process_tree.specs.Remaining.{Received, remaining}
use Rattle.local_actions.specs.internal.Listed.{actions_of_residual}
use Rattle.local_actions.specs.declared.action.LocalAction.{LocalAction}
use Rattle.local_actions.specs.declared.action.ActionKind.{ActionKind}
use Rattle.local_actions.specs.declared.action.ActionKind.TheVariants.{Sends, Syncs, Releases}
use Rattle.channel_uses.specs.StemsFrom.{StemsFrom}
use Rattle.channel_uses.specs.Uses.{used}

-- whether the action is the partner of one that acts on channel c: it sends or syncs, or is held until a close
abbrev pub is_partner_on : ℕ → ActionKind → Bool
is_partner_on c (Sends d v read) = d == c
is_partner_on c (Syncs d) = d == c
is_partner_on c (Releases d) = d == c
is_partner_on c _ = false

-- those of the actions that are
abbrev pub on : ℕ → List LocalAction → List LocalAction
on c [] = []
on c (r ∷ rs) = cond (is_partner_on c r.action) (r ∷ on c rs) (on c rs)

-- a process that stems from a command which does not use channel e offers nothing on it
abbrev pub OffersNothingUnused : Type 0
OffersNothingUnused =
    (s : Store) (p : Proc) (env : Received) (c : Code) (e : ℕ) → StemsFrom p c → (In e (used c) → ⊥) →
    on e (actions_of_residual s (remaining env p)) ≡ []
