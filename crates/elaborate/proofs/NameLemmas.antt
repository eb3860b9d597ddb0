-- Lists of names without repetition, and names behind the number of a call.
use Rattle.std.proofs.Common.{◌≡◌, ◌⊎◌, inl, inr, ℕ, zero, suc, ◌+◌, ◌-◌, ◌%◌, ◌<◌, ◌≤◌, ◌^◌, List, [], ◌∷◌, ◌++◌, map, refl, ap, sym, ◌∙◌, subst, arith, append_assoc}
use Rattle.std.specs.Fmt.{decimal}
use Rattle.std.proofs.lemmas.Fmt.{decimal_by_steps, decimal_injective}
use Rattle.std.proofs.lemmas.List.{append_cancel_left}
use Rattle.elaborate.specs.Laws.{Distinct}
use Rattle.syntax.specs.Lists.{In, Every}
use Rattle.syntax.specs.Texts.{Text}
use Rattle.system.specs.Named.{prefix_of_call}

pub in_left : {X : Type 0} (x : X) (xs ys : List X) → In x xs → In x (xs ++ ys)
in_left x [] ys h = absurd h
in_left x (y ∷ xs) ys h = elim h [ inl e ↦ inl e | inr r ↦ inr (in_left x xs ys r) ]

pub in_right : {X : Type 0} (x : X) (xs ys : List X) → In x ys → In x (xs ++ ys)
in_right x [] ys h = h
in_right x (y ∷ xs) ys h = inr (in_right x xs ys h)

pub in_either : {X : Type 0} (x : X) (xs ys : List X) → In x (xs ++ ys) → In x xs ⊎ In x ys
in_either x [] ys h = inr h
in_either x (y ∷ xs) ys h =
    elim h [ inl e ↦ inl (inl e) | inr r ↦ elim (in_either x xs ys r) [ inl a ↦ inl (inr a) | inr b ↦ inr b ] ]

pub every_in : {X : Type 0} (P : X → Type 0) (x : X) (xs : List X) → Every P xs → In x xs → P x
every_in P x [] all h = absurd h
every_in P x (y ∷ xs) all h = elim h [ inl e ↦ subst P (sym e) all.0 | inr r ↦ every_in P x xs all.1 r ]

pub every_append : {X : Type 0} (P : X → Type 0) (xs ys : List X) → Every P xs → Every P ys → Every P (xs ++ ys)
every_append P [] ys a b = b
every_append P (x ∷ xs) ys a b = (a.0, every_append P xs ys a.1 b)

pub every_right : {X : Type 0} (P : X → Type 0) (xs ys : List X) → Every P (xs ++ ys) → Every P ys
every_right P [] ys a = a
every_right P (x ∷ xs) ys a = every_right P xs ys a.1

pub every_more : {X : Type 0} (P Q : X → Type 0) (xs : List X) → ((x : X) → P x → Q x) → Every P xs → Every Q xs
every_more P Q [] f a = tt
every_more P Q (x ∷ xs) f a = (f x a.0, every_more P Q xs f a.1)

pub distinct_append : (xs ys : List Text) → Distinct xs → Distinct ys → ((x : Text) → In x xs → In x ys → ⊥) → Distinct (xs ++ ys)
distinct_append [] ys a b apart = b
distinct_append (x ∷ xs) ys a b apart = (
  λ h. elim (in_either x xs ys h) [ inl k ↦ a.0 k | inr k ↦ apart x (inl refl) k ],
  distinct_append xs ys a.1 b (λ y h k. apart y (inr h) k),
)

pub distinct_right : (xs ys : List Text) → Distinct (xs ++ ys) → Distinct ys
distinct_right [] ys a = a
distinct_right (x ∷ xs) ys a = distinct_right xs ys a.1

-- one name more, between two lists
pub distinct_between : (xs ys : List Text) (x : Text) → Distinct (xs ++ ys) → (In x (xs ++ ys) → ⊥) → Distinct (xs ++ x ∷ ys)
distinct_between [] ys x a new = (new, a)
distinct_between (y ∷ xs) ys x a new = (
  λ h. elim (in_either y xs (x ∷ ys) h) [
    | inl k ↦ a.0 (in_left y xs ys k)
    | inr k ↦ elim k [ inl e ↦ new (inl (sym e)) | inr r ↦ a.0 (in_right y xs ys r) ]
  ],
  distinct_between xs ys x a.1 (λ h. new (inr h)),
)

-- ---- numbers of calls

-- a decimal number has no `:`
no_colon : (n : ℕ) → n < 2 ^ 64 → In 58 (decimal n) → ⊥
no_colon n small = decimal_by_steps (λ n ds. In 58 ds → ⊥) one more n small
  where
    one : (n : ℕ) → n < 10 → In 58 ((48 + n) ∷ []) → ⊥
    one n less h = elim h [ inl e ↦ omega (arith, e, less) | inr r ↦ absurd r ]

    more : (n : ℕ) (ds : List ℕ) → 10 ≤ n → (In 58 ds → ⊥) → In 58 (ds ++ ((48 + n % 10) ∷ [])) → ⊥
    more n ds large none h =
        elim (in_either 58 ds ((48 + n % 10) ∷ []) h) [
          | inl a ↦ none a
          | inr b ↦ elim b [ inl e ↦ omega (arith, e) | inr r ↦ absurd r ]
        ]

-- two texts with what stands behind their first `:`
before_colon : (xs ys r s : Text) → (In 58 xs → ⊥) → (In 58 ys → ⊥) → xs ++ 58 ∷ r ≡ ys ++ 58 ∷ s → xs ≡ ys
before_colon [] [] r s a b e = refl
before_colon [] (y ∷ ys) r s a b e = absurd (b (inl (let same : 58 ≡ y = cc in same)))
before_colon (x ∷ xs) [] r s a b e = absurd (a (inl (let same : 58 ≡ x = cc in same)))
before_colon (x ∷ xs) (y ∷ ys) r s a b e =
    let head : x ≡ y = cc in
    let tail : xs ++ 58 ∷ r ≡ ys ++ 58 ∷ s = cc in
    let rest : xs ≡ ys = before_colon xs ys r s (λ h. a (inr h)) (λ h. b (inr h)) tail in
    cc

behind_call : (prefix rest : Text) (k : ℕ) → prefix_of_call prefix k ++ rest ≡ prefix ++ (decimal k ++ 58 ∷ rest)
behind_call prefix rest k = append_assoc (prefix ++ decimal k) (58 ∷ []) rest ∙ append_assoc prefix (decimal k) (58 ∷ rest)

-- the name begins so
pub record Begins (prefix name : Text) : Type 0 where
  pub rest : Text
  pub is : name ≡ prefix ++ rest

-- the name is that of a copy for a call of a body, in which more than so many stand before
pub record OfCall (prefix : Text) (passed : ℕ) (name : Text) : Type 0 where
  pub call : ℕ
  pub rest : Text
  pub later : passed < call
  pub small : call < 2 ^ 64
  pub is : name ≡ prefix ++ (decimal call ++ 58 ∷ rest)

pub of_this_call : (prefix : Text) (passed : ℕ) (name : Text) → passed + 1 < 2 ^ 64 → Begins (prefix_of_call prefix (passed + 1)) name → OfCall prefix passed name
of_this_call prefix passed name small h = record {
  call = passed + 1;
  rest = h.rest;
  later = omega arith;
  small = small;
  is = h.is ∙ behind_call prefix h.rest (passed + 1);
}

pub of_later_call : (prefix : Text) (passed : ℕ) (name : Text) → OfCall prefix (passed + 1) name → OfCall prefix passed name
of_later_call prefix passed name h = record { call = h.call; rest = h.rest; later = omega (arith, h.later); small = h.small; is = h.is }

pub begins_so : (prefix : Text) (passed : ℕ) (name : Text) → OfCall prefix passed name → Begins prefix name
begins_so prefix passed name h = record { rest = decimal h.call ++ 58 ∷ h.rest; is = h.is }

-- no name is of a call and of a later one
pub calls_apart : (prefix : Text) (passed : ℕ) (name : Text) → passed + 1 < 2 ^ 64
    → Begins (prefix_of_call prefix (passed + 1)) name → OfCall prefix (passed + 1) name → ⊥
calls_apart prefix passed name small h k =
    let e : prefix ++ (decimal (passed + 1) ++ 58 ∷ h.rest) ≡ prefix ++ (decimal k.call ++ 58 ∷ k.rest) =
    sym (h.is ∙ behind_call prefix h.rest (passed + 1)) ∙ k.is in
    let f = append_cancel_left prefix (decimal (passed + 1) ++ 58 ∷ h.rest) (decimal k.call ++ 58 ∷ k.rest) e in
    let g = before_colon (decimal (passed + 1)) (decimal k.call) h.rest k.rest (no_colon (passed + 1) small) (no_colon k.call k.small) f in
    let same : passed + 1 ≡ k.call = decimal_injective (passed + 1) k.call small k.small g in
    omega (arith, same, k.later)

-- a name without `:` is of no call
pub own_apart : (prefix own name : Text) (passed : ℕ) → (In 58 own → ⊥) → name ≡ prefix ++ own → OfCall prefix passed name → ⊥
own_apart prefix own name passed none e k =
    let f = append_cancel_left prefix own (decimal k.call ++ 58 ∷ k.rest) (sym e ∙ k.is) in
    none (subst (In 58) (sym f) (in_right 58 (decimal k.call) (58 ∷ k.rest) (inl refl)))
