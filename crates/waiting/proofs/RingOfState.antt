-- What is told of exactly the actions that wait holds of the state.
use Rattle.std.proofs.Common.{◌↔◌, ℕ, List, [], ◌∷◌, Bool}
use Rattle.syntax.specs.Lists.{In}
use Rattle.runs.specs.Moves.{Place}
use Rattle.runs.specs.Steps.{State}
use Rattle.system.specs.Residual.{Residual}
use Rattle.machine.specs.AtMachine.{AtMachine}
use Rattle.local_actions.specs.declared.action.LocalAction.{LocalAction}
use Rattle.rings.specs.Rings.{Helped, Waiters, WaitsAt, HoldEachOther, IsDeadlocked, WaitsFor, Linked, IsRing, TellsDeadlocked, TellsRing}
use Rattle.waiting.specs.Input.{helped_in}
use Rattle.waiting.specs.Rings.{NamesDeadlocked, NamesRing}
use Rattle.waiting.specs.Waits.{Waits, ListsWaiting}

-- whichever of two ways is used to say who waits
abbrev Same : Waiters → Waiters → Type 0
Same W V = (x : LocalAction) → W x ↔ V x

module _ (W V : Waiters) (same : Same W V) (help : Helped) (r : Residual) where
  at : (a : Place) → WaitsAt W a → WaitsAt V a
  at a h = (h.0, (same h.0).0 h.1, h.2)

  hold : (places : List Place) → HoldEachOther W help r places → HoldEachOther V help r places
  hold places h a i = let here = h a i in (at a here.0, λ x v e. here.1 x ((same x).1 v) e)

  dead : (a : Place) → IsDeadlocked W help r a → IsDeadlocked V help r a
  dead a h = (h.0, h.1, hold h.0 h.2)

  for : (a b : Place) → WaitsFor W r a b → WaitsFor V r a b
  for a b h = (h.0, (same h.0).0 h.1, h.2, h.3)

  linked : (f a : Place) (ring : List Place) → Linked W help r f a ring → Linked V help r f a ring
  linked f a [] h = (dead a h.0, for a f h.1)
  linked f a (b ∷ ring) h = (dead a h.0, for a b h.1, linked f b ring h.2)

  rings : (ring : List Place) → IsRing W help r ring → IsRing V help r ring
  rings [] h = h
  rings (a ∷ ring) h = linked a a ring h

back : (S : State) (actions : List LocalAction) → ListsWaiting S actions → Same (Waits S) (λ x. In x actions)
back S actions l x = ((l.exactly x).1, (l.exactly x).0)

pub names-deadlocked : (m : AtMachine) (S : State) (actions : List LocalAction) (marks : List Bool) → ListsWaiting S actions
    → TellsDeadlocked (helped_in m S) S.residual actions marks → NamesDeadlocked m S actions marks
names-deadlocked m S actions marks l h = (
  h.0,
  λ i x got. (
    λ on. dead (λ y. In y actions) (Waits S) l.exactly (helped_in m S) S.residual x.place ((h.1 i x got).0 on),
    λ d. (h.1 i x got).1 (dead (Waits S) (λ y. In y actions) (back S actions l) (helped_in m S) S.residual x.place d),
  ),
)

pub names-ring : (m : AtMachine) (S : State) (actions : List LocalAction) (ring : List ℕ) → ListsWaiting S actions → TellsRing (helped_in m S) S.residual actions ring
    → NamesRing m S actions ring
names-ring m S actions [] l h = λ ring r. h ring (rings (Waits S) (λ x. In x actions) (back S actions l) (helped_in m S) S.residual ring r)
names-ring m S actions (i ∷ rest) l h = (h.0, h.1, rings (λ x. In x actions) (Waits S) l.exactly (helped_in m S) S.residual h.0 h.2, h.3, h.4)
