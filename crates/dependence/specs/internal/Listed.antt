-- The live events as they are kept: by ticket, each with its links, and an empty place where one was taken out.
-- No reader has to believe it: contracts see a `Live` as `Shown`, which has no places.
use Rattle.std.specs.Prelude.{◌≡◌, ℕ, ◌*◌, List, length, map, Some, slice_get, nat_lt, if◌then◌else◌}
use Rattle.std.specs.List.{remove}
use Rattle.slots.specs.Places.{Places, filled, RiseFrom, Counted, EndsFilled}
use Rattle.runs.specs.Live.{Live}
use Rattle.runs.specs.declared.event.Event.{Event}
use Rattle.dependence.specs.declared.kept.Kept.{Kept}
use Rattle.dependence.specs.declared.links.Links.{Links}
use Rattle.dependence.specs.internal.Tables.{StandsAt}

-- the events of what is kept, with their tickets
abbrev pub events_kept : List (ℕ × Kept) → Live
events_kept ks = map (λ k. (k.0, k.1.event)) ks

-- the links of what is kept
abbrev pub links_kept : List (ℕ × Kept) → List Links
links_kept ks = map (λ k. k.1.links) ks

-- places as live events, whatever event each has: of these the tickets alone count
abbrev pub seats : Event → Places Kept → Live
seats e ps = map (λ p. (p.0, e)) ps

-- how many more there is room for: so many in the map, where the blocks go on behind its places
abbrev pub room_in : Places Kept → ℕ → ℕ → ℕ
room_in ps spare blocks = if nat_lt (length ps) (64 * blocks) then spare else 0

-- what contracts see of a list of live events: the events, the links of each, and for how many more there is room
pub record Listed : Type 0 where
  pub live : Live
  pub links : List Links
  pub room : ℕ

-- the same of places, of which so many more fit into the map, and so many blocks are counted
abbrev pub listed : Places Kept → ℕ → ℕ → Listed
listed ps spare blocks = record {
  live = events_kept (filled ps);
  links = links_kept (filled ps);
  room = room_in ps spare blocks;
}

-- what holds of the places at every moment
pub record IsListed (ps : Places Kept) (counts : List ℕ) (n : ℕ) : Type 0 where
  pub rising : RiseFrom 0 ps
  pub counted : Counted ps counts
  pub count : n ≡ length (filled ps)
  pub last : EndsFilled ps

-- nothing but links has changed
pub record SameLive (old new : Listed) : Type 0 where
  pub live : new.live ≡ old.live
  pub room : new.room ≡ old.room

-- the links of the live event of ticket t
abbrev pub LinksOf : Listed → ℕ → Links → Type 0
LinksOf s t m = (i : ℕ) × StandsAt s.live t i × (slice_get s.links i ≡ Some m)

-- the event of ticket t is taken out with its links from this index
pub record TakenOut (old new : Listed) (t index : ℕ) (kept : Kept) : Type 0 where
  pub stands : slice_get old.live index ≡ Some (t, kept.event)
  pub linked : slice_get old.links index ≡ Some kept.links
  pub live : new.live ≡ remove old.live index
  pub links : new.links ≡ remove old.links index
