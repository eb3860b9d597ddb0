-- Which event depends on which, and the orders that respect it (Danos and Krivine 2004).
use Rattle.std.specs.Prelude.{◌≡◌, ◌⊎◌, ℕ, List, [], ◌∷◌, ◌++◌, Some}
use Rattle.syntax.specs.Lists.{In}
use Rattle.runs.specs.Moves.{Place}
use Rattle.address.specs.Places.{Before}
use Rattle.runs.specs.Events.{places}
use Rattle.runs.specs.declared.event.Event.{Event}

-- an address of e is before an address of f
abbrev pub SomeBefore : Event → Event → Type 0
SomeBefore e f = (a : Place) × (b : Place) × In a (places e) × In b (places f) × Before a b

-- both are on one channel
abbrev pub OnOneChannel : Event → Event → Type 0
OnOneChannel e f = (c : ℕ) × (e.channel ≡ Some c) × (f.channel ≡ Some c)

-- e writes a variable that f reads or writes
abbrev pub WritesFor : Event → Event → Type 0
WritesFor e f = (x : ℕ) × (e.written ≡ Some x) × (In x f.read ⊎ (f.written ≡ Some x))

-- one writes a variable that the other reads or writes
abbrev pub OnOneVariable : Event → Event → Type 0
OnOneVariable e f = WritesFor e f ⊎ WritesFor f e

-- a later f depends directly on an earlier e
abbrev pub Directly : Event → Event → Type 0
Directly e f = SomeBefore e f ⊎ OnOneChannel e f ⊎ OnOneVariable e f

-- in the list h, e stands before f
abbrev pub Earlier : List Event → Event → Event → Type 0
Earlier [] e f = ⊥
Earlier (x ∷ h) e f = ((x ≡ e) × In f h) ⊎ Earlier h e f

-- in the list h, f depends on e: it is e, or depends directly on one that depends on e
pub data Causes (h : List Event) (e : Event) : Event → Type 0 where
  itself : Causes h e e
  onwards : {f g : Event} → Causes h e f → Earlier h f g → Directly f g → Causes h e g

-- k is the list l without the elements of which D holds
pub data Without {X : Type 0} (D : X → Type 0) : List X → List X → Type 0 where
  ended : Without D [] []
  stays : {x : X} {l k : List X} → (D x → ⊥) → Without D l k → Without D (x ∷ l) (x ∷ k)
  leaves : {x : X} {l k : List X} → D x → Without D l k → Without D (x ∷ l) k

-- g is a rearrangement of h
abbrev pub Rearranged : List Event → List Event → Type 0
Rearranged [] g = g ≡ []
Rearranged (e ∷ h) g =
    (before : List Event) × (after : List Event) × (g ≡ before ++ e ∷ after) × Rearranged h (before ++ after)

-- g is a rearrangement of h that keeps the order of each directly dependent pair
pub record Respecting (h g : List Event) : Type 0 where
  pub rearranged : Rearranged h g
  pub keeps : (e f : Event) → Earlier h e f → Directly e f → Earlier g e f
