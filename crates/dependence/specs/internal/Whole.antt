-- What holds of the tables of a `Live` at every moment.
-- No reader has to believe it: it is the invariant of `Live`, of whose methods the clauses speak by `Shown`.
use Rattle.std.specs.Prelude.{◌≡◌, ◌↔◌, ℕ, List, Bool, length}
use Rattle.syntax.specs.Lists.{In}
use Rattle.runs.specs.Live.{Live}
use Rattle.runs.specs.declared.event.Event.{Event}
use Rattle.dependence.specs.declared.links.Links.{Links}
use Rattle.dependence.specs.declared.tables.Tables.{Tables}
use Rattle.dependence.specs.internal.Tabled.{HasEvent}
use Rattle.dependence.specs.internal.Tables.{IsRising, Falling, Linked, PartLinked, Candidates, Topmost}

-- tickets rise, the tables list the followers, and there is a mark for each event
pub record IsWhole (l : Live) (links : List Links) (flags : List Bool) : Type 0 where
  pub rising : IsRising l
  pub linked : Linked l links
  pub marks : length flags ≡ length l

-- the new event of ticket n is in the tables, and linked to what it follows
pub record IsEntered (l : Live) (n : ℕ) (f : Event) (kept : List ℕ) (links : List Links) (tables : Tables) : Type 0 where
  pub falling : Falling kept
  pub topmost : (found : List ℕ) × Candidates l f found × ((t : ℕ) → In t kept ↔ Topmost l found t)
  pub linked : PartLinked l n (λ t. In t kept) links
  pub has : HasEvent n f tables
