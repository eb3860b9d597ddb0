-- The canonical order of some events: one list for all the orders in which they may have been taken.
use Rattle.std.specs.Prelude.{◌≡◌, ℕ, List, [], ◌∷◌, ◌++◌, Some, slice_get}
use Rattle.std.specs.declared.cmp.Ordering.TheVariants.{Less}
use Rattle.address.specs.Order.{order_of}
use Rattle.syntax.specs.Lists.{In}
use Rattle.runs.specs.Dependence.{Directly, Earlier}
use Rattle.runs.specs.Events.{acting}
use Rattle.runs.specs.Live.{Live}
use Rattle.runs.specs.declared.event.Event.{Event}

-- e is in the list and has no direct cause there: it depends directly on none that stands before it
pub record Free (h : List Event) (e : Event) : Type 0 where
  pub inside : In e h
  pub no_cause : (f : Event) → Earlier h f e → Directly f e → ⊥

-- of those that have no direct cause in the list, e has the least acting address
pub record LeastFree (h : List Event) (e : Event) : Type 0 where
  pub free : Free h e
  pub least : (f : Event) → Free h f → order_of (acting f) (acting e) ≡ Less → ⊥

-- g is the canonical order of h: first the event with the least acting address of those that have no direct cause in h,
-- and then the canonical order of the others
abbrev pub IsCanonicalOrder : List Event → List Event → Type 0
IsCanonicalOrder h [] = h ≡ []
IsCanonicalOrder h (e ∷ g) =
    (before : List Event) × (after : List Event) × (h ≡ before ++ e ∷ after) × LeastFree h e
    × IsCanonicalOrder (before ++ after) g

-- the events g stand at these indexes of the live events, each at its own
abbrev pub StandAt : Live → List ℕ → List Event → Type 0
StandAt l [] [] = Unit {0}
StandAt l [] (e ∷ g) = ⊥
StandAt l (i ∷ indexes) [] = ⊥
StandAt l (i ∷ indexes) (e ∷ g) = ((t : ℕ) × (slice_get l i ≡ Some (t, e))) × StandAt l indexes g
