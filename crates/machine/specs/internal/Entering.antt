-- An event that was made entered among the live events, or not.
-- No reader has to believe it: `Holds` of `internal/Histories.antt` is what `add` gives.
use Rattle.std.specs.Prelude.{◌≡◌, suc, [], ◌∷◌, ◌++◌}
use Rattle.runs.specs.declared.event.Event.{Event}
use Rattle.event_inverse.specs.declared.record.Inverse.{Inverse}
use Rattle.machine.specs.internal.Histories.{tree_of}
use Rattle.machine.specs.declared.history.History.{History}

-- the event stands behind the live ones, with its inverse
pub record Entered (h : History) (kept : Event) (inverse : Inverse) (h' : History) : Type 0 where
  pub tree : tree_of h' ≡ tree_of h
  pub live : h'.live.live ≡ h.live.live ++ (h.next, kept) ∷ []
  pub inverses : h'.inverses ≡ h.inverses ++ inverse ∷ []
  pub next : h'.next ≡ suc h.next
  pub marked : h'.live.marked ≡ h.live.marked

-- nothing has changed
pub record NotEntered (h : History) (h' : History) : Type 0 where
  pub tree : tree_of h' ≡ tree_of h
  pub live : h'.live.live ≡ h.live.live
  pub inverses : h'.inverses ≡ h.inverses
  pub next : h'.next ≡ h.next
  pub marked : h'.live.marked ≡ h.live.marked
