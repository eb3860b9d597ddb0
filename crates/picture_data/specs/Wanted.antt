-- For which lanes an action waits: those of what stands at the place behind which its partner is, or below it; where
-- that is nothing, those of all commands that could be its partner, but for its own.
use Rattle.std.specs.Prelude.{ℕ, ◌+◌, ◌==◌, ◌&&◌, List, [], ◌∷◌, Bool, true, false, cond, length, Option, None, Some, nat_lt, slice_get}
use Rattle.std.specs.List.{insert}
use Rattle.runs.specs.Moves.{Place}
use Rattle.runs.specs.Tests.{same_entry}
use Rattle.runs.specs.declared.event.Event.{Event}
use Rattle.local_actions.specs.declared.action.LocalAction.{LocalAction}
use Rattle.rings.specs.declared.partner.Partner.{Partner}
use Rattle.rings.specs.declared.partner.Partner.TheVariants as partner
use Rattle.picture_lanes.specs.Lanes.{lane_index}
use Rattle.picture_lanes.specs.declared.lane.Lane.{Lane}
use Rattle.picture_lanes.specs.declared.walk.ChannelUse.{ChannelUse}
use Rattle.picture_lanes.specs.declared.walk.Way.{Way}
use Rattle.picture_lanes.specs.declared.walk.Way.TheVariants as way
use Rattle.picture_data.specs.Lines.{lane_at}
use Rattle.picture_data.specs.declared.places.Role.{Role}
use Rattle.picture_data.specs.declared.places.Role.TheVariants as role

-- what there is around an action: the lanes and the uses of channels, the actions that wait, and the events that can be
-- taken
pub record Around : Type 0 where
  pub lanes : List Lane
  pub uses : List ChannelUse
  pub actions : List LocalAction
  pub ready : List Event

-- the same, with the line of each place
pub record Seen : Type 0 where
  pub line : Place → ℕ
  pub around : Around

-- ---- numbers that ascend, each once

-- how many of them, from the first on, are less
abbrev pub below : ℕ → List ℕ → ℕ
below n [] = 0
below n (k ∷ ks) = cond (nat_lt k n) (below n ks + 1) 0

abbrev pub is_number : ℕ → Option ℕ → Bool
is_number n None = false
is_number n (Some k) = k == n

-- with one more
abbrev pub with_number : ℕ → List ℕ → List ℕ
with_number n ks = cond (is_number n (slice_get ks (below n ks))) ks (insert ks (below n ks) n)

abbrev pub with_found : Option ℕ → List ℕ → List ℕ
with_found None ks = ks
with_found (Some n) ks = with_number n ks

-- ---- what stands at a place or below it

-- whether b is a or below it
abbrev pub is_under : Place → Place → Bool
is_under [] b = true
is_under (x ∷ a) [] = false
is_under (x ∷ a) (y ∷ b) = same_entry x y && is_under a b

abbrev pub with_under : List Lane → Place → Place → List ℕ → List ℕ
with_under lanes a b ks = cond (is_under a b) (with_found (lane_at lanes b) ks) ks

abbrev pub with_actions_below : List Lane → Place → List LocalAction → List ℕ → List ℕ
with_actions_below lanes a [] ks = ks
with_actions_below lanes a (x ∷ xs) ks = with_actions_below lanes a xs (with_under lanes a x.place ks)

abbrev pub with_second_below : List Lane → Place → Option Place → List ℕ → List ℕ
with_second_below lanes a None ks = ks
with_second_below lanes a (Some b) ks = with_under lanes a b ks

abbrev pub with_ready_below : List Lane → Place → List Event → List ℕ → List ℕ
with_ready_below lanes a [] ks = ks
with_ready_below lanes a (e ∷ es) ks =
    with_ready_below lanes a es (with_second_below lanes a e.second (with_under lanes a e.first ks))

abbrev pub lanes_below : Around → Place → List ℕ
lanes_below s a = with_ready_below s.lanes a s.ready (with_actions_below s.lanes a s.actions [])

abbrev pub behind_lanes : Around → Option Partner → List ℕ
behind_lanes s (Some (partner.Behind a)) = lanes_below s a
behind_lanes s (Some partner.Gone) = []
behind_lanes s (Some partner.Open) = []
behind_lanes s None = []

-- ---- all that could be its partner

abbrev pub is_receiver : Way → Bool
is_receiver way.Receives = true
is_receiver way.Opens = true
is_receiver _ = false

abbrev pub is_sender : Way → Bool
is_sender way.Sends = true
is_sender _ = false

abbrev pub is_sync_end : Way → Bool
is_sync_end way.Syncs = true
is_sync_end way.Opens = true
is_sync_end _ = false

abbrev pub is_opened_by : Way → Bool
is_opened_by way.Sends = true
is_opened_by way.Syncs = true
is_opened_by _ = false

abbrev pub is_opener : Way → Bool
is_opener way.Opens = true
is_opener _ = false

-- whether what uses a channel in this way can be the partner of an action of this role
abbrev pub is_partner : Role → Way → Bool
is_partner role.Sends w = is_receiver w
is_partner role.Receives w = is_sender w
is_partner role.Syncs w = is_sync_end w
is_partner role.Opens w = is_opened_by w
is_partner role.Held w = is_opener w
is_partner role.Closes w = false
is_partner role.Goes w = false

abbrev pub same_lane : Option ℕ → Option ℕ → Bool
same_lane None None = true
same_lane (Some k) (Some n) = k == n
same_lane _ _ = false

-- with the lane, if it is not its own
abbrev pub with_other : Option ℕ → Option ℕ → List ℕ → List ℕ
with_other own found ks = cond (same_lane found own) ks (with_found found ks)

abbrev pub with_use : List Lane → Option ℕ → ℕ → Role → ChannelUse → List ℕ → List ℕ
with_use lanes own c r u ks =
    cond ((u.channel == c) && is_partner r u.way) (with_other own (lane_index lanes u.path) ks) ks

abbrev pub with_uses : List Lane → Option ℕ → ℕ → Role → List ChannelUse → List ℕ → List ℕ
with_uses lanes own c r [] ks = ks
with_uses lanes own c r (u ∷ us) ks = with_uses lanes own c r us (with_use lanes own c r u ks)

-- ---- the lanes

-- where there are none, those of all uses
abbrev pub or_uses : Around → Option ℕ → ℕ → Role → List ℕ → List ℕ
or_uses s own c r ks = cond (length ks == 0) (with_uses s.lanes own c r s.uses ks) ks

-- those for which an action of this role in the lane `own`, with this partner, waits on a channel
abbrev pub wanted_lanes : Around → Option Partner → Option ℕ → ℕ → Role → List ℕ
wanted_lanes s p own c r = or_uses s own c r (behind_lanes s p)
