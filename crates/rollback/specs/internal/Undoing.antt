-- One event undone, with its mark.
-- No reader has to believe it: the proof of `roll` ties it to `TakesBack` of `Rollbacks.antt`.
use Rattle.std.specs.Prelude.{◌≡◌, ℕ}
use Rattle.runs.specs.Live.{WithoutTickets}
use Rattle.machine.specs.AtMachine.{AtMachine}
use Rattle.machine.specs.Marks.{without_ticket}

-- from m to m' the event of ticket t is gone, and its mark
pub record Undone (m : AtMachine) (t : ℕ) (m' : AtMachine) : Type 0 where
  pub live : WithoutTickets (λ u. u ≡ t) m.live m'.live
  pub marked : m'.marked ≡ without_ticket t m.marked
  pub next : m'.next ≡ m.next
  pub system : m'.checked ≡ m.checked
