-- Items by ticket, of which some were taken out and have left their place empty.
use Rattle.std.specs.Prelude.{◌≡◌, ℕ, suc, ◌+◌, ◌*◌, ◌≤◌, List, [], ◌∷◌, length, take, Option, Some, None, slice_get}
use Rattle.syntax.specs.Lists.{In}

-- a place has a ticket, and an item unless it was taken out
abbrev pub Places : Type 0 → Type 0
Places X = List (ℕ × Option X)

-- the item of a place, where there is one, before others
abbrev pub put_before : {X : Type 0} → ℕ → Option X → List (ℕ × X) → List (ℕ × X)
put_before t None rest = rest
put_before t (Some x) rest = (t, x) ∷ rest

-- the items that are there, with their tickets
abbrev pub filled : {X : Type 0} → Places X → List (ℕ × X)
filled [] = []
filled (p ∷ ps) = put_before p.0 p.1 (filled ps)

-- how many items are there before this place
abbrev pub rank : {X : Type 0} → Places X → ℕ → ℕ
rank ps place = length (filled (take place ps))

-- the tickets of the places rise from `low` on
abbrev pub RiseFrom : {X : Type 0} → ℕ → Places X → Type 0
RiseFrom low [] = Unit {0}
RiseFrom low (p ∷ ps) = (low ≤ p.0) × RiseFrom (suc p.0) ps

-- no item has this ticket
abbrev pub NoneOf : {X : Type 0} → Places X → ℕ → Type 0
NoneOf {X} ps t = (x : X) → In (t, x) (filled ps) → ⊥

-- the item of this ticket is at this place
abbrev pub IsOf : {X : Type 0} → Places X → ℕ → ℕ → Type 0
IsOf {X} ps t place = (x : X) × (slice_get ps place ≡ Some (t, Some x))

-- an item is at this place
abbrev pub HasItem : {X : Type 0} → Places X → ℕ → Type 0
HasItem {X} ps place = (t : ℕ) × (x : X) × (slice_get ps place ≡ Some (t, Some x))

-- at this place is the item at this index of those that are there
pub record StandsFor {X : Type 0} (ps : Places X) (index place : ℕ) : Type 0 where
  pub ticket : ℕ
  pub item : X
  pub here : slice_get ps place ≡ Some (ticket, Some item)
  pub before : rank ps place ≡ index

-- of each block of 64 places it is told how many items it has
pub record Counted {X : Type 0} (ps : Places X) (counts : List ℕ) : Type 0 where
  pub blocks : (b n : ℕ) → slice_get counts b ≡ Some n → rank ps (64 * b + 64) ≡ rank ps (64 * b) + n
  pub all : length ps ≤ 64 * length counts

-- the last place is not empty
abbrev pub EndsFilled : {X : Type 0} → Places X → Type 0
EndsFilled ps = (place t : ℕ) → suc place ≡ length ps → slice_get ps place ≡ Some (t, None) → ⊥

-- the last place is empty
abbrev pub EndsEmpty : {X : Type 0} → Places X → Type 0
EndsEmpty ps = (place : ℕ) × (t : ℕ) × (suc place ≡ length ps) × (slice_get ps place ≡ Some (t, None))
