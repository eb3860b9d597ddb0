-- What the environment gives, and who waits for more of it.
use Rattle.std.specs.Prelude.{◌==◌, ◌||◌, ◌&&◌, ℕ, List, [], ◌∷◌, Bool, false, Option, None, Some, cond, is_some}
use Rattle.system.specs.declared.system.Branch as outside
use Rattle.system.specs.declared.system.Branch.TheVariants.{Feed, Drain, Syncs}
use Rattle.system.specs.declared.system.System.{System}
use Rattle.runs.specs.Live.{events}
use Rattle.runs.specs.Moves.{Place}
use Rattle.runs.specs.Steps.{State}
use Rattle.dependence.specs.EventPlaces.{line_after}
use Rattle.machine.specs.AtMachine.{AtMachine}
use Rattle.local_actions.specs.declared.action.LocalAction.{LocalAction}
use Rattle.local_actions.specs.declared.action.ActionKind.{ActionKind}
use Rattle.local_actions.specs.declared.action.ActionKind.TheVariants as action
use Rattle.rings.specs.Partners.{partner_in}
use Rattle.rings.specs.declared.partner.Partner.{Partner}
use Rattle.rings.specs.declared.partner.Partner.TheVariants as partner
use Rattle.waiting.specs.Progress.{is_in_body, is_outlet}

-- the line of the source at a place
abbrev pub line_at : AtMachine → Place → Option ℕ
line_at m a = line_after (events m.live) m.checked a

-- whether the environment has a number of values or handshakes for channel c
abbrev pub feeds : ℕ → outside.Branch → Bool
feeds c (Feed d w values) = d == c
feeds c (Drain d) = false
feeds c (Syncs d n) = d == c

abbrev pub is_fed : ℕ → List outside.Branch → Bool
is_fed c [] = false
is_fed c (b ∷ bs) = feeds c b || is_fed c bs

-- the channel on which an action takes what the environment gives, if it is one
abbrev pub fed_if : Bool → ℕ → Option ℕ
fed_if fed c = cond fed (Some c) None

abbrev pub fed_channel : System → ActionKind → Option ℕ
fed_channel system (action.Receives c x) = fed_if (is_fed c system.environment) c
fed_channel system (action.Opens c k) = fed_if (is_fed c system.environment) c
fed_channel system (action.Syncs c) = fed_if (is_fed c system.environment) c
fed_channel system _ = None

-- an action in the body that takes what the environment has a number of
abbrev pub takes_input : AtMachine → LocalAction → Bool
takes_input m x = is_in_body x.place && is_some (fed_channel m.checked x.action)

-- an action in the body that waits for what the environment has no more of, with this partner
abbrev pub is_starved : AtMachine → LocalAction → Option Partner → Bool
is_starved m x (Some partner.Gone) = takes_input m x
is_starved m x (Some (partner.Behind a)) = false
is_starved m x (Some partner.Open) = false
is_starved m x None = false

-- an action, with this partner, for which none of the others has to go on: another hand helps, the user's, who gives
-- more input, or that of the environment at an output port, which takes whatever comes
abbrev pub is_helped : AtMachine → LocalAction → Option Partner → Bool
is_helped m x p = is_outlet x.action || is_starved m x p

-- the same of an action that waits in S
abbrev pub helped_in : AtMachine → State → LocalAction → Bool
helped_in m S x = is_helped m x (Some (partner_in S.residual x))
