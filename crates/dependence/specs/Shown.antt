-- What callers see of a `Live`: the live events with their tickets, and the tickets that are marked.
use Rattle.std.specs.Prelude.{ℕ, ◌<◌, ◌≤◌, List, [], ◌∷◌, ◌++◌, Bool, true, false}
use Rattle.syntax.specs.Lists.{In}
use Rattle.runs.specs.InOrder.{InOrder}
use Rattle.runs.specs.Live.{Live, Rising, IsLive}
use Rattle.runs.specs.declared.event.Event.{Event}

-- the live events with their tickets, in order of tickets, and the tickets that are marked, ascending
pub record Shown : Type 0 where
  pub live : Live
  pub marked : List ℕ

-- the tickets rise, and the marked ones, which ascend, are tickets of live events
pub record IsSound (s : Shown) : Type 0 where
  pub rising : (next : ℕ) × Rising 0 s.live next
  pub live : (t : ℕ) → In t s.marked → IsLive s.live t
  pub ascending : InOrder ◌<◌ s.marked

-- one more event, which has no mark
abbrev pub with_newest : Shown → ℕ → Event → Shown
with_newest s t e = record { live = s.live ++ (t, e) ∷ []; marked = s.marked }

-- t is the greatest of these tickets
pub record Greatest (tickets : List ℕ) (t : ℕ) : Type 0 where
  pub inside : In t tickets
  pub greatest : (u : ℕ) → In u tickets → u ≤ t

-- the tickets at the indexes that are marked
abbrev pub tickets_marked : Live → List Bool → List ℕ
tickets_marked [] marks = []
tickets_marked (x ∷ l) [] = []
tickets_marked (x ∷ l) (true ∷ marks) = x.0 ∷ tickets_marked l marks
tickets_marked (x ∷ l) (false ∷ marks) = tickets_marked l marks
