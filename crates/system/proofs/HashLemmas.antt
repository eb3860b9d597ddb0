-- The positions that an index by hash holds, and what is found behind the first position of a hash.
use Rattle.std.proofs.Common.{◌≡◌, ℕ, suc, ◌+◌, List, [], ◌∷◌, ◌++◌, map, drop, Bool, true, false, cond, Option, Some, None, is_some, option_map, nat_eq, if◌then◌else◌, refl, ap, sym, ◌∙◌, arith, add-zero, zero-add}
use Rattle.std.specs.Cmp.{nat_eq_equiv}
use Rattle.std.specs.Cmp.Lexicographic.{pointwise, bytes_decides}
use Rattle.std.specs.Map.{lookup}
use Rattle.std.specs.Option.{option_or}
use Rattle.indexmap.specs.IndexMap.{insert_entry}
use Rattle.system.specs.internal.Hashing.{Hashed, mixed, hash_onto, hash_of, position_of_hash, hash_noted, hashes_noted_from, positions_of_hashes}
use Rattle.system.specs.Named.{variable_from}
use Rattle.system.specs.declared.system.Variable.{Variable}

-- the hash of a text goes on from that of its beginning
pub hash_onto-append : (xs ys : List ℕ) (hash : ℕ) → hash_onto hash (xs ++ ys) ≡ hash_onto (hash_onto hash xs) ys
hash_onto-append [] ys hash = refl
hash_onto-append (x ∷ xs) ys hash = hash_onto-append xs ys (mixed hash x)

-- the value at a hash is its position
pub position_of_hash-lookup : (hash : ℕ) (es : Hashed) → lookup (λ k. nat_eq hash k) es ≡ position_of_hash es hash
position_of_hash-lookup hash [] = refl
position_of_hash-lookup hash (e ∷ es) = ap (cond (nat_eq hash e.0) (Some e.1)) (position_of_hash-lookup hash es)

-- a hash that is not there goes last
hash-insert : (hash position : ℕ) (es : Hashed) → is_some (position_of_hash es hash) ≡ false
    → insert_entry nat_eq es hash position ≡ es ++ (hash, position) ∷ []
hash-insert hash position [] absent = refl
hash-insert hash position (e ∷ es) absent = by (nat_eq hash e.0) refl (hash-insert hash position es)
  where
    by : (b : Bool) → nat_eq hash e.0 ≡ b
        → (is_some (position_of_hash es hash) ≡ false → insert_entry nat_eq es hash position ≡ es ++ (hash, position) ∷ [])
        → insert_entry nat_eq (e ∷ es) hash position ≡ (e ∷ es) ++ (hash, position) ∷ []
    by true same rest = let h = rw same at absent in cc
    by false other rest = rw other (ap (λ (more : Hashed). e ∷ more) (rest (rw other at absent)))

-- the positions after a hash is noted that was not there
pub hash_noted-insert : (hash position : ℕ) (es new old : Hashed) → es ≡ old → is_some (position_of_hash old hash) ≡ false
    → new ≡ insert_entry nat_eq es hash position → new ≡ hash_noted old hash position
hash_noted-insert hash position es new old view absent inserted =
    rw (absent, inserted, ← view) (hash-insert hash position es (rw view absent))

-- the first position of the hash, where the first of the hashes stands at this position
abbrev pub first_hash : ℕ → List ℕ → ℕ → Option ℕ
first_hash position [] hash = None
first_hash position (h ∷ hs) hash = if nat_eq h hash then Some position else first_hash (position + 1) hs hash

-- what is found behind more entries
position_of_hash-append : (es more : Hashed) (hash : ℕ)
    → position_of_hash (es ++ more) hash ≡ option_or (position_of_hash es hash) (position_of_hash more hash)
position_of_hash-append [] more hash = refl
position_of_hash-append (e ∷ es) more hash = by (nat_eq hash e.0) refl (position_of_hash-append es more hash)
  where
    by : (b : Bool) → nat_eq hash e.0 ≡ b
        → position_of_hash (es ++ more) hash ≡ option_or (position_of_hash es hash) (position_of_hash more hash)
        → position_of_hash ((e ∷ es) ++ more) hash ≡ option_or (position_of_hash (e ∷ es) hash) (position_of_hash more hash)
    by true same rest = rw same refl
    by false other rest = rw other rest

-- equal hashes have one position
position_of_hash-same : (es : Hashed) (h hash : ℕ) → nat_eq h hash ≡ true → position_of_hash es h ≡ position_of_hash es hash
position_of_hash-same [] h hash same = refl
position_of_hash-same (e ∷ es) h hash same = rw (nat_eq_equiv.congr h hash e.0 same, position_of_hash-same es h hash same) refl

-- nothing behind changes nothing
none-behind : (o later : Option ℕ) → option_or (option_or o None) later ≡ option_or o later
none-behind None later = refl
none-behind (Some x) later = refl

-- a hash that is noted is found, unless another position was found before
hash-noted-found : (es : Hashed) (h position hash : ℕ) (later : Option ℕ)
    → option_or (position_of_hash (hash_noted es h position) hash) later
    ≡ option_or (position_of_hash es hash) (if nat_eq h hash then Some position else later)
hash-noted-found es h position hash later = by (position_of_hash es h) refl (nat_eq h hash) refl
  where
    by : (o : Option ℕ) → position_of_hash es h ≡ o → (b : Bool) → nat_eq h hash ≡ b
        → option_or (position_of_hash (hash_noted es h position) hash) later
        ≡ option_or (position_of_hash es hash) (if nat_eq h hash then Some position else later)
    by (Some x) held true same = rw (held, same, ← position_of_hash-same es h hash same, held) refl
    by (Some x) held false other = rw (held, other) refl
    by None free true same =
        rw (free, same, position_of_hash-append es ((h, position) ∷ []) hash, nat_eq_equiv.symm hash h, same, ← position_of_hash-same es h hash same, free) refl
    by None free false other =
        rw (free, other, position_of_hash-append es ((h, position) ∷ []) hash, nat_eq_equiv.symm hash h, other) (none-behind (position_of_hash es hash) later)

position-noted_from : (es : Hashed) (position : ℕ) (hs : List ℕ) (hash : ℕ)
    → position_of_hash (hashes_noted_from es position hs) hash ≡ option_or (position_of_hash es hash) (first_hash position hs hash)
position-noted_from es position [] hash = by (position_of_hash es hash)
  where
    by : (o : Option ℕ) → o ≡ option_or o None
    by None = refl
    by (Some x) = refl
position-noted_from es position (h ∷ hs) hash =
    position-noted_from (hash_noted es h position) (position + 1) hs hash ∙ hash-noted-found es h position hash (first_hash (position + 1) hs hash)

-- the position counted from one position earlier
first-shift : (k : ℕ) (hs : List ℕ) (hash : ℕ) → first_hash (k + 1) hs hash ≡ option_map suc (first_hash k hs hash)
first-shift k [] hash = refl
first-shift k (h ∷ hs) hash = by (nat_eq h hash) refl (first-shift (k + 1) hs hash)
  where
    by : (b : Bool) → nat_eq h hash ≡ b
        → first_hash (k + 1 + 1) hs hash ≡ option_map suc (first_hash (k + 1) hs hash)
        → first_hash (k + 1) (h ∷ hs) hash ≡ option_map suc (first_hash k (h ∷ hs) hash)
    by true same rest = rw same (ap Some (omega arith))
    by false other rest = rw other rest

-- names of different hashes differ
names-differ : (xs ys : List ℕ) → nat_eq (hash_of xs) (hash_of ys) ≡ false → pointwise nat_eq xs ys ≡ false
names-differ xs ys other = by (pointwise nat_eq xs ys) refl
  where
    by : (b : Bool) → pointwise nat_eq xs ys ≡ b → b ≡ false
    by true same =
        let equal : nat_eq (hash_of xs) (hash_of ys) ≡ true =
        ap (λ zs. nat_eq (hash_of xs) (hash_of zs)) (sym ((bytes_decides xs ys).0 same)) ∙ nat_eq_equiv.refl (hash_of xs) in
        sym equal ∙ other
    by false same = refl

-- the number of the first variable of the name at this position of the list or behind, where the first of the list has number k
abbrev pub found_behind : ℕ → List Variable → List ℕ → Option ℕ → Option ℕ
found_behind k vs name None = None
found_behind k vs name (Some position) = variable_from (k + position) (drop position vs) name

-- with one variable before
behind-more : (k : ℕ) (v : Variable) (vs : List Variable) (name : List ℕ) (position : Option ℕ)
    → found_behind (k + 1) vs name position ≡ found_behind k (v ∷ vs) name (option_map suc position)
behind-more k v vs name None = refl
behind-more k v vs name (Some position) = ap (λ n. variable_from n (drop position vs) name) (omega arith)

-- the first variable of a name is not before the first one of its hash
found-behind : (k : ℕ) (vs : List Variable) (name : List ℕ)
    → variable_from k vs name ≡ found_behind k vs name (first_hash 0 (map (λ v. hash_of v.name) vs) (hash_of name))
found-behind k [] name = refl
found-behind k (v ∷ vs) name = by (nat_eq (hash_of v.name) (hash_of name)) refl (found-behind (k + 1) vs name)
  where
    by : (b : Bool) → nat_eq (hash_of v.name) (hash_of name) ≡ b
        → variable_from (k + 1) vs name ≡ found_behind (k + 1) vs name (first_hash 0 (map (λ v. hash_of v.name) vs) (hash_of name))
        → variable_from k (v ∷ vs) name ≡ found_behind k (v ∷ vs) name (first_hash 0 (map (λ v. hash_of v.name) (v ∷ vs)) (hash_of name))
    by true same rest = rw same (ap (λ n. variable_from n (v ∷ vs) name) (sym (add-zero k)))
    by false other rest =
        rw (other, names-differ v.name name other, first-shift 0 (map (λ v. hash_of v.name) vs) (hash_of name))
        (rest ∙ behind-more k v vs name (first_hash 0 (map (λ v. hash_of v.name) vs) (hash_of name)))

-- the number of the first variable of the name at this position or behind
abbrev pub found_at : List Variable → List ℕ → Option ℕ → Option ℕ
found_at vs name None = None
found_at vs name (Some position) = variable_from position (drop position vs) name

behind-none : (vs : List Variable) (name : List ℕ) (position : Option ℕ) → found_at vs name position ≡ found_behind 0 vs name position
behind-none vs name None = refl
behind-none vs name (Some position) = ap (λ n. variable_from n (drop position vs) name) (sym (zero-add position))

-- what is found at the position that an index holds, or behind it
pub number-read : (positions : Hashed) (vs now : List Variable) (name : List ℕ) (hash : ℕ) (found position : Option ℕ)
    → positions ≡ positions_of_hashes (map (λ v. hash_of v.name) vs) → vs ≡ now → hash ≡ hash_of name
    → found ≡ position_of_hash positions hash → found ≡ position → found_at vs name position ≡ variable_from 0 now name
number-read positions vs now name hash found position index same hashed at is =
    behind-none vs name position
    ∙ rw (← is, at, index, hashed, ← same, position-noted_from [] 0 (map (λ v. hash_of v.name) vs) (hash_of name)) (sym (found-behind 0 vs name))
