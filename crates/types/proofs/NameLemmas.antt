-- The names that an index holds, as the list that definitions speak of.
use Rattle.std.proofs.Common.{◌≡◌, ℕ, List, [], ◌∷◌, ◌++◌, map, take, Bool, true, false, cond, Option, Some, None, is_some, nat_eq, Bor, refl, ap, sym, suc, zero}
use Rattle.std.specs.Cmp.Lexicographic.{pointwise}
use Rattle.std.specs.Map.{lookup}
use Rattle.std.specs.Option.{option_copied}
use Rattle.indexmap.specs.IndexMap.{insert_entry}
use Rattle.types.specs.Names.{look_up}
use Rattle.types.specs.declared.scope.Meaning.{Meaning}

module _ {K : Type 0} (bytes : K → List ℕ) where
  -- the entry with the bytes of its key
  abbrev pub shown : K × Meaning → List ℕ × Meaning
  shown e = (bytes e.0, e.1)

  -- the value at a key is what the name means
  pub look_up-shown : (name : List ℕ) (es : List (K × Meaning)) → lookup (λ k. pointwise nat_eq name (bytes k)) es ≡ look_up (map shown es) name
  look_up-shown name [] = refl
  look_up-shown name (e ∷ es) = ap (cond (pointwise nat_eq name (bytes e.0)) (Some e.1)) (look_up-shown name es)

  -- the first entries are the first names
  pub shown-take : (n : ℕ) (es : List (K × Meaning)) → map shown (take n es) ≡ take n (map shown es)
  shown-take zero es = refl
  shown-take (suc n) [] = refl
  shown-take (suc n) (e ∷ es) = ap (λ rest. shown e ∷ rest) (shown-take n es)

  -- a key that is not there goes last
  pub shown-insert : (k : K) (m : Meaning) (es : List (K × Meaning))
      → is_some (look_up (map shown es) (bytes k)) ≡ false
      → map shown (insert_entry (λ a b. pointwise nat_eq (bytes a) (bytes b)) es k m) ≡ map shown es ++ (bytes k, m) ∷ []
  shown-insert k m [] absent = refl
  shown-insert k m (e ∷ es) absent = by (pointwise nat_eq (bytes k) (bytes e.0)) refl (shown-insert k m es)
    where
      by : (b : Bool) → pointwise nat_eq (bytes k) (bytes e.0) ≡ b
          → (is_some (look_up (map shown es) (bytes k)) ≡ false
          → map shown (insert_entry (λ a b. pointwise nat_eq (bytes a) (bytes b)) es k m) ≡ map shown es ++ (bytes k, m) ∷ [])
          → map shown (insert_entry (λ a b. pointwise nat_eq (bytes a) (bytes b)) (e ∷ es) k m) ≡ map shown (e ∷ es) ++ (bytes k, m) ∷ []
      by true same rest = let h = rw same at absent in cc
      by false other rest = rw other (ap (λ more. shown e ∷ more) (rest (rw other at absent)))

-- where a look-up found nothing, the name has no meaning
pub absent_by : {A : Type 0} (r : Option (Bor A)) (o : Option A) → option_copied r ≡ o → is_some r ≡ false → is_some o ≡ false
absent_by None o same absent = ap is_some (sym same)
absent_by (Some x) o same absent = cc
