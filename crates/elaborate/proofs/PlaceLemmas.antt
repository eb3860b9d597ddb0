-- The places that an index holds, as the list that definitions speak of, and what is found there.
use Rattle.std.proofs.Common.{◌≡◌, ℕ, ◌+◌, List, [], ◌∷◌, ◌++◌, map, Bool, true, false, cond, Option, Some, None, is_some, nat_eq, if◌then◌else◌, refl, ap, ◌∙◌}
use Rattle.std.specs.Cmp.Lexicographic.{pointwise, nat_list_eq_equiv}
use Rattle.std.specs.Map.{lookup}
use Rattle.std.specs.Option.{option_or}
use Rattle.indexmap.specs.IndexMap.{insert_entry}
use Rattle.elaborate.specs.internal.NamePositions.{Positions, position_at, with_name, noted_from, positions_of}

module _ {K : Type 0} (bytes : K → List ℕ) where
  -- the entry with the bytes of its key
  abbrev pub shown : K × ℕ → List ℕ × ℕ
  shown e = (bytes e.0, e.1)

  -- the value at a key is its place
  pub place_at-shown : (name : List ℕ) (es : List (K × ℕ)) → lookup (λ k. pointwise nat_eq name (bytes k)) es ≡ position_at (map shown es) name
  place_at-shown name [] = refl
  place_at-shown name (e ∷ es) = ap (cond (pointwise nat_eq name (bytes e.0)) (Some e.1)) (place_at-shown name es)

  -- a key that is not there goes last
  pub shown-insert : (k : K) (place : ℕ) (es : List (K × ℕ))
      → is_some (position_at (map shown es) (bytes k)) ≡ false
      → map shown (insert_entry (λ a b. pointwise nat_eq (bytes a) (bytes b)) es k place) ≡ map shown es ++ (bytes k, place) ∷ []
  shown-insert k place [] absent = refl
  shown-insert k place (e ∷ es) absent = by (pointwise nat_eq (bytes k) (bytes e.0)) refl (shown-insert k place es)
    where
      by : (b : Bool) → pointwise nat_eq (bytes k) (bytes e.0) ≡ b
          → (is_some (position_at (map shown es) (bytes k)) ≡ false
          → map shown (insert_entry (λ a b. pointwise nat_eq (bytes a) (bytes b)) es k place) ≡ map shown es ++ (bytes k, place) ∷ [])
          → map shown (insert_entry (λ a b. pointwise nat_eq (bytes a) (bytes b)) (e ∷ es) k place) ≡ map shown (e ∷ es) ++ (bytes k, place) ∷ []
      by true same rest = let h = rw same at absent in cc
      by false other rest = rw other (ap (λ more. shown e ∷ more) (rest (rw other at absent)))

  -- the places after a name is noted that was not there
  pub noted-insert : (k : K) (place : ℕ) (es new : List (K × ℕ)) (old : Positions) (name : List ℕ)
      → map shown es ≡ old → bytes k ≡ name → is_some (position_at old name) ≡ false
      → new ≡ insert_entry (λ a b. pointwise nat_eq (bytes a) (bytes b)) es k place
      → map shown new ≡ with_name old name place
  noted-insert k place es new old name view named absent inserted =
      rw (absent, inserted, ← view, ← named) (shown-insert k place es (rw (view, named) absent))

-- the first place of the name, where the first of the names stands at this place
abbrev pub first_from : ℕ → List (List ℕ) → List ℕ → Option ℕ
first_from place [] name = None
first_from place (n ∷ ns) name = if pointwise nat_eq n name then Some place else first_from (place + 1) ns name

-- what is found behind more entries
pub place_at-append : (es more : Positions) (name : List ℕ) → position_at (es ++ more) name ≡ option_or (position_at es name) (position_at more name)
place_at-append [] more name = refl
place_at-append (e ∷ es) more name = by (pointwise nat_eq name e.0) refl (place_at-append es more name)
  where
    by : (b : Bool) → pointwise nat_eq name e.0 ≡ b
        → position_at (es ++ more) name ≡ option_or (position_at es name) (position_at more name)
        → position_at ((e ∷ es) ++ more) name ≡ option_or (position_at (e ∷ es) name) (position_at more name)
    by true same rest = rw same refl
    by false other rest = rw other rest

-- equal names have one place
pub place_at-same : (es : Positions) (n name : List ℕ) → pointwise nat_eq n name ≡ true → position_at es n ≡ position_at es name
place_at-same [] n name same = refl
place_at-same (e ∷ es) n name same =
    rw (nat_list_eq_equiv.congr n name e.0 same, place_at-same es n name same) refl

-- nothing behind changes nothing
none-behind : (o later : Option ℕ) → option_or (option_or o None) later ≡ option_or o later
none-behind None later = refl
none-behind (Some x) later = refl

-- a name that is noted is found, unless another place was found before
pub noted-found : (es : Positions) (n : List ℕ) (place : ℕ) (name : List ℕ) (later : Option ℕ)
    → option_or (position_at (with_name es n place) name) later ≡ option_or (position_at es name) (if pointwise nat_eq n name then Some place else later)
noted-found es n place name later = by (position_at es n) refl (pointwise nat_eq n name) refl
  where
    by : (o : Option ℕ) → position_at es n ≡ o → (b : Bool) → pointwise nat_eq n name ≡ b
        → option_or (position_at (with_name es n place) name) later ≡ option_or (position_at es name) (if pointwise nat_eq n name then Some place else later)
    by (Some x) held true same = rw (held, same, ← place_at-same es n name same, held) refl
    by (Some x) held false other = rw (held, other) refl
    by None free true same =
        rw (free, same, place_at-append es ((n, place) ∷ []) name, nat_list_eq_equiv.symm name n, same, ← place_at-same es n name same, free) refl
    by None free false other =
        rw (free, other, place_at-append es ((n, place) ∷ []) name, nat_list_eq_equiv.symm name n, other) (none-behind (position_at es name) later)

pub place_at-noted_from : (es : Positions) (place : ℕ) (ns : List (List ℕ)) (name : List ℕ)
    → position_at (noted_from es place ns) name ≡ option_or (position_at es name) (first_from place ns name)
place_at-noted_from es place [] name = by (position_at es name)
  where
    by : (o : Option ℕ) → o ≡ option_or o None
    by None = refl
    by (Some x) = refl
place_at-noted_from es place (n ∷ ns) name =
    place_at-noted_from (with_name es n place) (place + 1) ns name ∙ noted-found es n place name (first_from (place + 1) ns name)

-- the place of a name is the first one at which it stands
pub place_at-places_of : (ns : List (List ℕ)) (name : List ℕ) → position_at (positions_of ns) name ≡ first_from 0 ns name
place_at-places_of ns name = place_at-noted_from [] 0 ns name
