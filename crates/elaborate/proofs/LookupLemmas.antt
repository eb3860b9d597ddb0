-- What is found by name is at the first position of the name.
use Rattle.std.proofs.Common.{◌≡◌, ℕ, zero, suc, ◌+◌, List, [], ◌∷◌, map, take, slice_get, Bool, true, false, Option, Some, None, is_some, option_map, option_and_then, nat_eq, nat_lt, refl, ap, sym, ◌∙◌, arith}
use Rattle.std.proofs.lemmas.Bool.{ltb-true, ltb-false, lt-ltb, le-ltb}
use Rattle.std.specs.Cmp.Lexicographic.{pointwise}
use Rattle.elaborate.specs.Fit.{kind_named, entry_named}
use Rattle.elaborate.specs.internal.NamePositions.{Positions, position_at, positions_of}
use Rattle.elaborate.specs.declared.stimulus.Entry.{Entry}
use Rattle.elaborate.proofs.PlaceLemmas.{first_from, place_at-places_of}
use Rattle.types.specs.declared.tree.Port.{Port}

-- the position counted from one position earlier
pub first-shift : (k : ℕ) (ns : List (List ℕ)) (name : List ℕ) → first_from (k + 1) ns name ≡ option_map suc (first_from k ns name)
first-shift k [] name = refl
first-shift k (n ∷ ns) name = by (pointwise nat_eq n name) refl (first-shift (k + 1) ns name)
  where
    by : (b : Bool) → pointwise nat_eq n name ≡ b
        → first_from (k + 1 + 1) ns name ≡ option_map suc (first_from (k + 1) ns name)
        → first_from (k + 1) (n ∷ ns) name ≡ option_map suc (first_from k (n ∷ ns) name)
    by true same rest = rw same (ap Some (omega arith))
    by false other rest = rw other rest

-- an element behind the first
behind : {X : Type 0} (x : X) (xs : List X) (o : Option ℕ)
    → option_and_then (slice_get (x ∷ xs)) (option_map suc o) ≡ option_and_then (slice_get xs) o
behind x xs None = refl
behind x xs (Some i) = refl

-- the port of a name is the one at its first position
pub kind-first : (ps : List Port) (name : List ℕ)
    → kind_named ps name ≡ option_map (λ (p : Port). p.kind) (option_and_then (slice_get ps) (first_from 0 (map (λ p. p.name) ps) name))
kind-first [] name = refl
kind-first (p ∷ ps) name = by (pointwise nat_eq p.name name) refl (kind-first ps name)
  where
    by : (b : Bool) → pointwise nat_eq p.name name ≡ b
        → kind_named ps name ≡ option_map (λ (p : Port). p.kind) (option_and_then (slice_get ps) (first_from 0 (map (λ p. p.name) ps) name))
        → kind_named (p ∷ ps) name
        ≡ option_map (λ (p : Port). p.kind) (option_and_then (slice_get (p ∷ ps)) (first_from 0 (map (λ p. p.name) (p ∷ ps)) name))
    by true same rest = rw same refl
    by false other rest =
        rw (other, first-shift 0 (map (λ p. p.name) ps) name, behind p ps (first_from 0 (map (λ p. p.name) ps) name)) rest

-- the entry of a name is the one at its first position
pub entry-first : (es : List Entry) (name : List ℕ)
    → entry_named es name ≡ option_and_then (slice_get es) (first_from 0 (map (λ e. e.name) es) name)
entry-first [] name = refl
entry-first (e ∷ es) name = by (pointwise nat_eq e.name name) refl (entry-first es name)
  where
    by : (b : Bool) → pointwise nat_eq e.name name ≡ b
        → entry_named es name ≡ option_and_then (slice_get es) (first_from 0 (map (λ e. e.name) es) name)
        → entry_named (e ∷ es) name ≡ option_and_then (slice_get (e ∷ es)) (first_from 0 (map (λ e. e.name) (e ∷ es)) name)
    by true same rest = rw same refl
    by false other rest =
        rw (other, first-shift 0 (map (λ e. e.name) es) name, behind e es (first_from 0 (map (λ e. e.name) es) name)) rest

-- whether a position that was found is below this one
abbrev pub is_below : ℕ → Option ℕ → Bool
is_below position None = false
is_below position (Some first) = nat_lt first position

-- none is below the first position
below-none : (o : Option ℕ) → is_below 0 o ≡ false
below-none None = refl
below-none (Some first) = le-ltb first 0 (omega arith)

-- both positions one further
below-both : (position : ℕ) (o : Option ℕ) → is_below (suc position) (option_map suc o) ≡ is_below position o
below-both position None = refl
below-both position (Some first) = by (nat_lt first position) refl
  where
    by : (b : Bool) → nat_lt first position ≡ b → nat_lt (suc first) (suc position) ≡ nat_lt first position
    by true less = lt-ltb (suc first) (suc position) (omega (arith, ltb-true first position less)) ∙ sym less
    by false not_less = le-ltb (suc first) (suc position) (omega (arith, ltb-false first position not_less)) ∙ sym not_less

-- an entry before a position has the name where its first position is below
pub named-before : (es : List Entry) (position : ℕ) (name : List ℕ)
    → is_some (entry_named (take position es) name) ≡ is_below position (first_from 0 (map (λ e. e.name) es) name)
named-before es zero name = sym (below-none (first_from 0 (map (λ e. e.name) es) name))
named-before [] (suc position) name = refl
named-before (e ∷ es) (suc position) name = by (pointwise nat_eq e.name name) refl (named-before es position name)
  where
    by : (b : Bool) → pointwise nat_eq e.name name ≡ b
        → is_some (entry_named (take position es) name) ≡ is_below position (first_from 0 (map (λ e. e.name) es) name)
        → is_some (entry_named (take (suc position) (e ∷ es)) name) ≡ is_below (suc position) (first_from 0 (map (λ e. e.name) (e ∷ es)) name)
    by true same rest = rw same (sym (lt-ltb 0 (suc position) (omega arith)))
    by false other rest =
        rw (other, first-shift 0 (map (λ e. e.name) es) name, below-both position (first_from 0 (map (λ e. e.name) es) name)) rest

-- what is found at the position that an index holds
pub kind-read : (positions : Positions) (ps now : List Port) (name : List ℕ) (found position : Option ℕ)
    → positions ≡ positions_of (map (λ p. p.name) ps) → ps ≡ now → found ≡ position_at positions name → found ≡ position
    → option_map (λ (p : Port). p.kind) (option_and_then (slice_get ps) position) ≡ kind_named now name
kind-read positions ps now name found position index same at is =
    rw (← is, at, index, ← same, place_at-places_of (map (λ p. p.name) ps) name) (sym (kind-first ps name))

pub entry-read : (positions : Positions) (es now : List Entry) (name : List ℕ) (found position : Option ℕ)
    → positions ≡ positions_of (map (λ e. e.name) es) → es ≡ now → found ≡ position_at positions name → found ≡ position
    → option_and_then (slice_get es) position ≡ entry_named now name
entry-read positions es now name found position index same at is =
    rw (← is, at, index, ← same, place_at-places_of (map (λ e. e.name) es) name) (sym (entry-first es name))

pub before-read : (positions : Positions) (es now : List Entry) (limit : ℕ) (name : List ℕ) (found position : Option ℕ)
    → positions ≡ positions_of (map (λ e. e.name) es) → es ≡ now → found ≡ position_at positions name → found ≡ position
    → is_below limit position ≡ is_some (entry_named (take limit now) name)
before-read positions es now limit name found position index same at is =
    rw (← is, at, index, ← same, place_at-places_of (map (λ e. e.name) es) name) (sym (named-before es limit name))
