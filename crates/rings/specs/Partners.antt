-- Where the only other end of a channel stands, for an action that waits: it may be there already, it may come once all
-- that stands at a place has gone on, or it cannot come any more. (Own.)
use Rattle.std.specs.Prelude.{ℕ, ◌==◌, List, [], ◌∷◌, Bool, true, false, ◌||◌, cond, Option, Some, None}
use Rattle.address.specs.declared.Entry.{Entry}
use Rattle.address.specs.declared.Entry.TheVariants.{Ordered, Branch}
use Rattle.system.specs.Residual.{Residual, done, halted, inside, beside, assign, send, receive, sync, held, loop, while, test, choose, closing, drain, Arms, no_arms, arm}
use Rattle.runs.specs.Moves.{Place}
use Rattle.runs.specs.Tests.{same_entry}
use Rattle.local_actions.specs.declared.action.LocalAction.{LocalAction}
use Rattle.local_actions.specs.declared.action.ActionKind.{ActionKind}
use Rattle.local_actions.specs.declared.action.ActionKind.TheVariants.{Assigns, Tests, Turns, Sends, Receives, Syncs, Opens, Releases, Closes}
use Rattle.rings.specs.declared.partner.Partner.{Partner}
use Rattle.rings.specs.declared.partner.Partner.TheVariants as partner
use Rattle.rings.specs.declared.sought.Sought.{Sought}
use Rattle.rings.specs.declared.sought.Sought.TheVariants as sought

-- ---- the end that an action waits for

-- for a send a receive or an arm, for a receive or an arm a send or sync, for a sync a sync or an arm, for what is held
-- the close; what acts alone waits for none
abbrev pub sought_by : ActionKind → Option Sought
sought_by (Assigns x v xs) = None
sought_by (Tests k xs) = None
sought_by Turns = None
sought_by (Sends c v xs) = Some (sought.Receiver c)
sought_by (Receives c x) = Some (sought.Sender c)
sought_by (Syncs c) = Some (sought.Partner c)
sought_by (Opens c k) = Some (sought.Sender c)
sought_by (Releases c) = Some (sought.Close c)
sought_by (Closes c) = None

-- whether a receive on channel c is it
abbrev pub is_receive : Sought → ℕ → Bool
is_receive (sought.Receiver d) c = d == c
is_receive _ c = false

-- whether a send is
abbrev pub is_send : Sought → ℕ → Bool
is_send (sought.Sender d) c = d == c
is_send _ c = false

-- whether a sync is
abbrev pub is_sync : Sought → ℕ → Bool
is_sync (sought.Sender d) c = d == c
is_sync (sought.Partner d) c = d == c
is_sync _ c = false

-- whether the close is
abbrev pub is_close : Sought → ℕ → Bool
is_close (sought.Close d) c = d == c
is_close _ c = false

-- whether the channel is one of these
abbrev pub has_channel : ℕ → List ℕ → Bool
has_channel d [] = false
has_channel d (c ∷ cs) = (d == c) || has_channel d cs

-- whether an arm on one of these channels is
abbrev pub is_arm : Sought → List ℕ → Bool
is_arm (sought.Receiver d) cs = has_channel d cs
is_arm (sought.Partner d) cs = has_channel d cs
is_arm _ cs = false

-- ---- where it stands

pub data Standing : Type 0 where
  -- nothing at all is left to do there
  over : Standing
  -- it is not there, and cannot come from there any more
  nowhere : Standing
  -- the same, and what is left to do there never ends: nothing behind it comes
  never : Standing
  -- it comes behind all that stands at this place and below it
  behind : Place → Standing
  -- it is there already, or may come from more than one branch
  at_hand : Standing

-- whether it is there or comes from there
abbrev pub is_found : Standing → Bool
is_found over = false
is_found nowhere = false
is_found never = false
is_found (behind a) = true
is_found at_hand = true

-- The way to the action that waits, from a place at which it stands or below: none elsewhere. Here the way from the
-- entry on.
abbrev pub below : Option Place → Entry → Option Place
below None x = None
below (Some []) x = None
below (Some (y ∷ a)) x = cond (same_entry y x) (Some a) None

-- it stands here, if it is one and not the action that waits
abbrev pub there : Option Place → Bool → Standing
there None true = at_hand
there None false = nowhere
there (Some a) b = nowhere

-- it comes behind what stands here, if it comes
abbrev pub ahead : Bool → Standing
ahead true = behind []
ahead false = nowhere

-- in the turns of a loop, if it comes in one of them; a loop without a test never ends
abbrev pub in_turns : Bool → Bool → Standing
in_turns true true = behind []
in_turns true false = never
in_turns false comes = ahead comes

-- at arms before they open: one of them is it, or it comes behind them
abbrev pub at_arms : Option Place → Bool → Bool → Standing
at_arms None true later = at_hand
at_arms None false later = ahead later
at_arms (Some a) one later = nowhere

-- it comes behind the child at this entry, if it comes in the rest; what stands behind the action that waits is no
-- partner of it
abbrev pub later : Entry → Option Place → Standing → Standing
later x None over = nowhere
later x None nowhere = nowhere
later x None never = never
later x None (behind a) = behind (x ∷ [])
later x None at_hand = behind (x ∷ [])
later x (Some a) rest = nowhere

-- in the child at this entry, or in what comes behind it
abbrev pub after : Entry → Option Place → Standing → Standing → Standing
after x own over rest = rest
after x own nowhere rest = later x own rest
after x own never rest = never
after x own (behind a) rest = behind (x ∷ a)
after x own at_hand rest = at_hand

-- in the branch at this entry
abbrev pub in_branch : Entry → Standing → Standing
in_branch x over = over
in_branch x nowhere = nowhere
in_branch x never = never
in_branch x (behind a) = behind (x ∷ a)
in_branch x at_hand = at_hand

-- in a branch or in those beside it, if it is in no other
abbrev pub together : Standing → Standing → Standing
together over rest = rest
together nowhere over = nowhere
together nowhere rest = rest
together never over = never
together never nowhere = never
together never rest = rest
together (behind a) over = behind a
together (behind a) nowhere = behind a
together (behind a) never = behind a
together (behind a) (behind b) = at_hand
together (behind a) at_hand = at_hand
together at_hand rest = at_hand

abbrev mutual
  -- where it stands in what is still to do, a line for each form
  pub stands : Sought → Residual → Option Place → Standing
  stands s done own = over
  stands s halted own = never
  stands s (inside i child next) own =
      after (Ordered i) (below own (Ordered i)) (stands s child (below own (Ordered i))) (stands s next own)
  stands s (beside k child rest) own =
      together (in_branch (Branch k) (stands s child (below own (Branch k)))) (stands s rest own)
  stands s (assign x w e) own = nowhere
  stands s (send c w e) own = there own (is_send s c)
  stands s (receive c x) own = there own (is_receive s c)
  stands s (sync c) own = there own (is_sync s c)
  stands s (held c) own = nowhere
  stands s (loop k body) own = in_turns true (is_found (stands s body None))
  stands s (while k e body) own = in_turns false (is_found (stands s body None))
  stands s (test d arms) own = ahead (in_arms s arms)
  stands s (choose cs arms) own = at_arms own (is_arm s cs) (in_arms s arms)
  stands s (closing c) own = there own (is_close s c)
  stands s (drain c k) own = there own (is_receive s c)

  -- whether it comes in one of these arms
  pub in_arms : Sought → Arms → Bool
  in_arms s no_arms = false
  in_arms s (arm r rest) = is_found (stands s r None) || in_arms s rest

-- ---- the partner of an action

abbrev pub partner_standing : Standing → Partner
partner_standing over = partner.Gone
partner_standing nowhere = partner.Gone
partner_standing never = partner.Gone
partner_standing (behind a) = partner.Behind a
partner_standing at_hand = partner.Open

abbrev pub partner_of : Residual → Place → Option Sought → Partner
partner_of r a None = partner.Open
partner_of r a (Some s) = partner_standing (stands s r (Some a))

-- what has to go on before the partner of the action can come, where r is still to do
abbrev pub partner_in : Residual → LocalAction → Partner
partner_in r x = partner_of r x.place (sought_by x.action)
