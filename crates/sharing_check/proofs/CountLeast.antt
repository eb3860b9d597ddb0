-- What is found is the least offset at which a channel that passes its width is declared.
use Rattle.std.proofs.Common.{◌≡◌, ◌⊎◌, inl, inr, ⊎_elim, ℕ, ◌<◌, ◌≤◌, min, List, [], ◌∷◌, Option, None, Some, unwrap_or, Bool, true, false, cond, ◌||◌, nat_eq, ltb-true, lt-ltb, eqb-true, eq-eqb, MatchOption, refl, sym, ap, ◌∙◌, subst, arith}
use Rattle.std.proofs.lemmas.Map.{lookup-none}
use Rattle.std.proofs.lemmas.Map.Entries.{none_past_head}
use Rattle.std.proofs.lemmas.Map.Keys.{IsDistinct-tail}
use Rattle.std.specs.Cmp.{nat_eq_equiv}
use Rattle.std.specs.List.{IsDistinct}
use Rattle.std.specs.Map.{keys_of, lookup}
use Rattle.syntax.specs.Lists.{In}
use Rattle.system.specs.declared.system.System.{System}
use Rattle.sharing_check.specs.declared.widths.Width.{Width}
use Rattle.sharing_rule.specs.Rule.{is_sync, width}
use Rattle.sharing_check.specs.Refusal.{PassesWidth, PassesAt, Least}
use Rattle.sharing_check.specs.internal.Counting.{Side, senders, receivers, users, Table, cut, no_use, of_side, stored, listed, measure, used_in, is_passed, declared_of, lesser, least_onto}
use Rattle.sharing_check.proofs.CountSystem.{outside, system_counted}

-- what is found is the least of these offsets, if there is one
abbrev pub IsLeast : (ℕ → Type 0) → Option ℕ → Type 0
IsLeast At found = MatchOption found ((o : ℕ) → At o → ⊥) (λ o. Least At o)

is_least_same : (A B : ℕ → Type 0) → ((o : ℕ) → A o → B o) → ((o : ℕ) → B o → A o) → (found : Option ℕ) → IsLeast A found → IsLeast B found
is_least_same A B f g None h = λ o b. h o (g o b)
is_least_same A B f g (Some o) h = (f o h.0, λ other b. h.1 other (g other b))

-- one offset more
is_least_more : (A : ℕ → Type 0) (offset : ℕ) (found : Option ℕ) → IsLeast A found → IsLeast (λ o. A o ⊎ (o ≡ offset)) (Some (lesser found offset))
is_least_more A offset None h = (inr refl, λ other. ⊎_elim (λ a. absurd (h other a)) (λ e. same offset other e))
  where
    same : (offset other : ℕ) → other ≡ offset → offset ≤ other
    same offset other e = omega arith
is_least_more A offset (Some o) h =
    (either o offset h.0 (cases o offset), λ other. ⊎_elim (λ a. before o offset other (h.1 other a)) (λ e. behind o offset other e))
  where
    cases : (o offset : ℕ) → (min o offset ≡ o) ⊎ (min o offset ≡ offset)
    cases o offset = grind arith

    either : (o offset : ℕ) → A o → (min o offset ≡ o) ⊎ (min o offset ≡ offset) → A (min o offset) ⊎ (min o offset ≡ offset)
    either o offset a = ⊎_elim (λ e. inl (subst A (sym e) a)) (λ e. inr e)

    before : (o offset other : ℕ) → o ≤ other → min o offset ≤ other
    before o offset other l = omega arith

    behind : (o offset other : ℕ) → other ≡ offset → min o offset ≤ other
    behind o offset other e = omega arith

-- an entry's channel and width
abbrev Entry : Type 0
Entry = ℕ × Width

differ : true ≡ false → ⊥
differ e = cc

module _ (system : System) where
  abbrev passed : Entry → Bool
  passed e = is_passed (is_sync system e.0) e.1

  -- the channel of one of the entries that are passed is declared here
  abbrev AtEntries : List Entry → ℕ → Type 0
  AtEntries es o = (e : Entry) × In e es × (passed e ≡ true) × (o ≡ declared_of system e.0)

  least_step : (A : ℕ → Type 0) (e : Entry) (es : List Entry) (found : Option ℕ) →
      (IsLeast (λ o. A o ⊎ (o ≡ declared_of system e.0)) (Some (lesser found (declared_of system e.0)))
      → IsLeast (λ o. (A o ⊎ (o ≡ declared_of system e.0)) ⊎ AtEntries es o) (least_onto system (Some (lesser found (declared_of system e.0))) es)) →
      (IsLeast A found → IsLeast (λ o. A o ⊎ AtEntries es o) (least_onto system found es)) →
      IsLeast A found → (b : Bool) → passed e ≡ b →
      IsLeast (λ o. A o ⊎ AtEntries (e ∷ es) o) (least_onto system (cond b (Some (lesser found (declared_of system e.0))) found) es)
  least_step A e es found more rest h true p =
      is_least_same _ _
      (λ o. ⊎_elim (⊎_elim (λ a. inl a) (λ is. inr (e, inl refl, p, is))) (λ k. inr (k.0, inr k.1, k.2, k.3)))
      (λ o. ⊎_elim (λ a. inl (inl a))
      (λ k. ⊎_elim
      (λ is. inl (inr (k.3 ∙ ap (λ (f : Entry). declared_of system f.0) is)))
      (λ i. inr (k.0, i, k.2, k.3)) k.1))
      _ (more (is_least_more A (declared_of system e.0) found h))
  least_step A e es found more rest h false p =
      is_least_same _ _
      (λ o. ⊎_elim (λ a. inl a) (λ k. inr (k.0, inr k.1, k.2, k.3)))
      (λ o. ⊎_elim (λ a. inl a)
      (λ k. ⊎_elim
      (λ is. absurd (differ (sym k.2 ∙ (ap passed is ∙ p))))
      (λ i. inr (k.0, i, k.2, k.3)) k.1))
      _ (rest h)

  least_found : (es : List Entry) (A : ℕ → Type 0) (found : Option ℕ) → IsLeast A found → IsLeast (λ o. A o ⊎ AtEntries es o) (least_onto system found es)
  least_found [] A found h = is_least_same _ _ (λ o a. inl a) (λ o. ⊎_elim (λ a. a) (λ k. absurd k.1)) found h
  least_found (e ∷ es) A found h =
      least_step A e es found (λ k. least_found es _ _ k) (λ k. least_found es A found k) h (passed e) refl

-- no channel has two entries
abbrev Apart : List Entry → Type 0
Apart es = IsDistinct nat_eq (keys_of es)

-- an entry is the one that a search finds
entry_found : (e : Entry) (es : List Entry) → Apart es → In e es → lookup (nat_eq e.0) es ≡ Some e.1
entry_found e [] apart i = absurd i
entry_found e (f ∷ es) apart (inl is) =
    ap (λ b. cond b (Some f.1) (lookup (nat_eq e.0) es)) (eq-eqb e.0 f.0 (ap (λ (f : Entry). f.0) is))
    ∙ ap (λ (f : Entry). Some f.1) (sym is)
entry_found e (f ∷ es) apart (inr i) = other (nat_eq e.0 f.0) refl (entry_found e es (IsDistinct-tail nat_eq f.0 (keys_of es) apart) i)
  where
    none_some : {X : Type 0} {o : Option Width} {w : Width} → o ≡ None → o ≡ Some w → X
    none_some e d = cc

    other : (b : Bool) → nat_eq e.0 f.0 ≡ b → lookup (nat_eq e.0) es ≡ Some e.1 → cond b (Some f.1) (lookup (nat_eq e.0) es) ≡ Some e.1
    other true same rest = none_some (lookup-none (nat_eq e.0) es (none_past_head nat_eq_equiv e.0 f es apart same)) rest
    other false same rest = rest

-- what a search finds is an entry
found_entry : (c : ℕ) (w : Width) (es : List Entry) → lookup (nat_eq c) es ≡ Some w → In (c, w) es
found_entry c w [] h = cc
found_entry c w (e ∷ es) h = at (nat_eq c e.0) refl h (found_entry c w es)
  where
    at : (b : Bool) → nat_eq c e.0 ≡ b → cond b (Some e.1) (lookup (nat_eq c) es) ≡ Some w → (lookup (nat_eq c) es ≡ Some w → In (c, w) es) → In (c, w) (e ∷ es)
    at true same is rest = inl (both (eqb-true c e.0 same) is)
      where
        both : {c d : ℕ} {v w : Width} → c ≡ d → Some v ≡ Some w → ◌≡◌ {A = Entry} (c, w) (d, v)
        both e f = cc
    at false same is rest = inr (rest is)

-- one of two tests is true
or_true : (a b : Bool) → (a || b) ≡ true → (a ≡ true) ⊎ (b ≡ true)
or_true true b h = inl refl
or_true false b h = inr h

true_or : (a b : Bool) → (a ≡ true) ⊎ (b ≡ true) → (a || b) ≡ true
true_or true b h = refl
true_or false b (inl e) = cc
true_or false b (inr e) = e

-- numbers that are cut at the same, compared with one that is less
past : (m n w : ℕ) → m < 3 → cut n ≡ cut w → m < n → m < w
past m n w small same l = omega arith

module _ (system : System) (c : ℕ) (w : Width)
    (counted : (side : Side) → cut (of_side side w) ≡ cut (width (measure side c) (outside side c) system)) where
  one_cut : 1 < 3
  one_cut = omega arith

  two_cut : 2 < 3
  two_cut = omega arith

  -- a width that is passed is passed by the channel
  passed_passes : (b : Bool) → is_sync system c ≡ b → is_passed b w ≡ true → PassesWidth system c
  passed_passes true is p = inr (inr (is, past 2 _ _ two_cut (counted users) (ltb-true _ _ p)))
  passed_passes false is p =
      ⊎_elim
      (λ s. inl (is, past 1 _ _ one_cut (counted senders) (ltb-true _ _ s)))
      (λ r. inr (inl (is, past 1 _ _ one_cut (counted receivers) (ltb-true _ _ r))))
      (or_true _ _ p)

  passes_passed : PassesWidth system c → is_passed (is_sync system c) w ≡ true
  passes_passed (inl h) =
      subst (λ b. is_passed b w ≡ true) (sym h.0) (true_or _ _ (inl (lt-ltb _ _ (past 1 _ _ one_cut (sym (counted senders)) h.1))))
  passes_passed (inr (inl h)) =
      subst (λ b. is_passed b w ≡ true) (sym h.0) (true_or _ _ (inr (lt-ltb _ _ (past 1 _ _ one_cut (sym (counted receivers)) h.1))))
  passes_passed (inr (inr h)) =
      subst (λ b. is_passed b w ≡ true) (sym h.0) (lt-ltb _ _ (past 2 _ _ two_cut (sym (counted users)) h.1))

module _ (system : System) (es : List Entry) (apart : Apart es) (is : listed es ≡ used_in system) where
  stored_counted : (c : ℕ) (side : Side) → cut (of_side side (stored es c)) ≡ cut (width (measure side c) (outside side c) system)
  unfolding listed
  stored_counted c side = ap (λ (t : Table). t side c) is ∙ system_counted side c system

  entry_passes : (o : ℕ) → ⊥ ⊎ AtEntries system es o → PassesAt system o
  entry_passes o (inl h) = absurd h
  entry_passes o (inr (e, i, p, at)) =
      let w : stored es e.0 ≡ e.1 = ap (λ o. unwrap_or o no_use) (entry_found e es apart i) in
      (e.0, passed_passes system e.0 e.1 (λ side. ap (λ w. cut (of_side side w)) (sym w) ∙ stored_counted e.0 side) (is_sync system e.0) refl p, at)

  passes_entry : (o : ℕ) → PassesAt system o → ⊥ ⊎ AtEntries system es o
  passes_entry o (c, h, at) =
      inr (found (lookup (nat_eq c) es) refl (passes_passed system c (stored es c) (stored_counted c) h))
    where
      idle : (b : Bool) → is_passed b no_use ≡ true → ⊥
      idle true p = cc
      idle false p = cc

      found : (r : Option Width) → lookup (nat_eq c) es ≡ r → is_passed (is_sync system c) (stored es c) ≡ true → AtEntries system es o
      found None e p = absurd (idle (is_sync system c) (sym (ap (λ r. is_passed (is_sync system c) (unwrap_or r no_use)) e) ∙ p))
      found (Some w) e p =
          ((c, w), found_entry c w es e, sym (ap (λ r. is_passed (is_sync system c) (unwrap_or r no_use)) e) ∙ p, at)

  pub least_is : IsLeast (PassesAt system) (least_onto system None es)
  least_is =
      is_least_same _ (PassesAt system) entry_passes passes_entry (least_onto system None es) (least_found system es (λ o. ⊥) None (λ o a. a))
