-- The events that actions make among themselves, found by channel.
-- No reader has to believe it: the clause of `events_among` says what is listed.
use Rattle.std.specs.Prelude.{◌≡◌, ◌↔◌, ◌≤◌, ℕ, List, Option, Some, None, slice_get}
use Rattle.runs.specs.declared.event.Event.{Event}
use Rattle.dependence.specs.LastEvents.{Uses}
use Rattle.dependence.specs.declared.uses.UseTable.{UseTable}
use Rattle.local_actions.specs.declared.action.LocalAction.{LocalAction}
use Rattle.local_actions.specs.declared.action.ActionKind.{ActionKind}
use Rattle.local_actions.specs.declared.action.ActionKind.TheVariants.{Sends, Syncs, Releases}
use Rattle.allowed_events.specs.internal.Meeting.{met}

-- the channel on which an action is the partner of one that acts, if it is on one
abbrev pub partner_on : ActionKind → Option ℕ
partner_on (Sends c v read) = Some c
partner_on (Syncs c) = Some c
partner_on (Releases c) = Some c
partner_on _ = None

-- action i is one on channel c
abbrev pub IsPartner : List LocalAction → ℕ → ℕ → Type 0
IsPartner xs c i = (x : LocalAction) × (slice_get xs i ≡ Some x) × (partner_on x.action ≡ Some c)

-- the table has their numbers on each channel
abbrev pub HasPartners : UseTable → List LocalAction → Type 0
HasPartners table xs = (c i : ℕ) → Uses table c i ↔ IsPartner xs c i

-- the action x makes the event with one of these from index n on, which is a partner on channel c
pub record MetFrom (n : ℕ) (x : LocalAction) (c : ℕ) (xs : List LocalAction) (e : Event) : Type 0 where
  pub index : ℕ
  pub partner : LocalAction
  pub from : n ≤ index
  pub at : slice_get xs index ≡ Some partner
  pub on : partner_on partner.action ≡ Some c
  pub made : met x.place x.action partner.place partner.action ≡ Some e
