-- What the search finds is a clash by the rule on sharing, and where it finds none there is none.
use Rattle.std.proofs.Common.{◌≡◌, ◌⊎◌, inl, inr, ℕ, ◌==◌, List, [], ◌∷◌, Bool, true, false, ◌||◌, ◌&&◌, not, Option, Some, None, refl, sym, ◌∙◌, ap, subst, true≢false, eqb-true, eq-eqb}
use Rattle.std.proofs.lemmas.Bool.{and_parts, not-true, not_from_false}
use Rattle.address.specs.Places.{Apart}
use Rattle.address.specs.declared.Entry.{Entry}
use Rattle.address.specs.declared.Entry.TheVariants.{Ordered, Branch}
use Rattle.syntax.specs.Lists.{In}
use Rattle.system.specs.declared.system.System.{System}
use Rattle.sharing_rule.specs.Rule.{is_shared}
use Rattle.sharing_check.specs.Refusal.{Clash}
use Rattle.sharing_check.specs.Uses.{VariableUse, uses_of}
use Rattle.clash_places.specs.Others.{TellsOther}
use Rattle.clash_places.specs.declared.pairs.OtherUse.{OtherUse}
use Rattle.clash_places.specs.internal.Pairs.{are_apart, is_clash, other_use_of, first_of_two, against, asked, or_else, first_clash}

both-are : (b c : Bool) → b ≡ true → c ≡ true → (b && c) ≡ true
both-are true c h e = e
both-are false c h e = cc

either : (b c : Bool) → (b || c) ≡ true → (b ≡ true) ⊎ (c ≡ true)
either true c h = inl refl
either false c h = inr h

either-is : (b c : Bool) → (b ≡ true) ⊎ (c ≡ true) → (b || c) ≡ true
either-is true c h = refl
either-is false c (inl e) = cc
either-is false c (inr e) = e

-- ---- ways that part at branches
apart-true : (a b : List Entry) → are_apart a b ≡ true → Apart a b
apart-true [] b h = cc
apart-true (x ∷ a) [] h = cc
apart-true (Ordered i ∷ a) (Ordered j ∷ b) h =
    let both = and_parts (i == j) (are_apart a b) h in (eqb-true i j both.0, apart-true a b both.1)
apart-true (Ordered i ∷ a) (Branch j ∷ b) h = cc
apart-true (Branch i ∷ a) (Ordered j ∷ b) h = cc
apart-true (Branch i ∷ a) (Branch j ∷ b) h = pick (i == j) refl h (apart-true a b)
  where
    pick : (c : Bool) → (i == j) ≡ c → (not c || (c && are_apart a b)) ≡ true → (are_apart a b ≡ true → Apart a b) → Apart (Branch i ∷ a) (Branch j ∷ b)
    pick true e k rest = inr (eqb-true i j e, rest k)
    pick false e k rest = inl (λ same. true≢false (sym (eq-eqb i j same) ∙ e))

apart-is : (a b : List Entry) → Apart a b → are_apart a b ≡ true
apart-is [] b h = absurd h
apart-is (Ordered i ∷ a) [] h = absurd h
apart-is (Branch i ∷ a) [] h = absurd h
apart-is (Ordered i ∷ a) (Ordered j ∷ b) h = both-are (i == j) (are_apart a b) (eq-eqb i j h.0) (apart-is a b h.1)
apart-is (Ordered i ∷ a) (Branch j ∷ b) h = absurd h
apart-is (Branch i ∷ a) (Ordered j ∷ b) h = absurd h
apart-is (Branch i ∷ a) (Branch j ∷ b) (inl differ) = pick (i == j) refl
  where
    pick : (c : Bool) → (i == j) ≡ c → (not c || (c && are_apart a b)) ≡ true
    pick true e = absurd (differ (eqb-true i j e))
    pick false e = refl
apart-is (Branch i ∷ a) (Branch j ∷ b) (inr h) = pick (i == j) refl (apart-is a b h.1)
  where
    pick : (c : Bool) → (i == j) ≡ c → are_apart a b ≡ true → (not c || (c && are_apart a b)) ≡ true
    pick true e rest = rest
    pick false e rest = absurd (true≢false (sym (eq-eqb i j h.0) ∙ e))

module _ (system : System) where
  clash-true : (u v : VariableUse) → is_clash system u v ≡ true → Clash system u v
  clash-true u v h =
      let one = and_parts (u.variable == v.variable) ((u.writes || v.writes) && (not (is_shared system u.variable) && are_apart u.place v.place)) h in
      let two = and_parts (u.writes || v.writes) (not (is_shared system u.variable) && are_apart u.place v.place) one.1 in
      let three = and_parts (not (is_shared system u.variable)) (are_apart u.place v.place) two.1 in
      record {
        apart = apart-true u.place v.place three.1;
        same = eqb-true u.variable v.variable one.0;
        not_shared = not-true (is_shared system u.variable) three.0;
        one_writes = either u.writes v.writes two.0;
      }

  clash-is : (u v : VariableUse) → Clash system u v → is_clash system u v ≡ true
  clash-is u v c =
      both-are (u.variable == v.variable) ((u.writes || v.writes) && (not (is_shared system u.variable) && are_apart u.place v.place))
      (eq-eqb u.variable v.variable c.same)
      (both-are (u.writes || v.writes) (not (is_shared system u.variable) && are_apart u.place v.place)
      (either-is u.writes v.writes c.one_writes)
      (both-are (not (is_shared system u.variable)) (are_apart u.place v.place) (not_from_false (is_shared system u.variable) c.not_shared)
      (apart-is u.place v.place c.apart)))

  -- ---- the first that clashes with a use
  against-found : (u : VariableUse) (vs : List VariableUse) (o : OtherUse) → against system u vs ≡ Some o
      → (v : VariableUse) × In v vs × Clash system u v × (o.offset ≡ v.offset) × (o.writes ≡ v.writes)
  against-found u [] o h = cc
  against-found u (v ∷ vs) o h = pick (is_clash system u v) refl h (against-found u vs o)
    where
      pick : (b : Bool) → is_clash system u v ≡ b → first_of_two b v (against system u vs) ≡ Some o
          → (against system u vs ≡ Some o → (w : VariableUse) × In w vs × Clash system u w × (o.offset ≡ w.offset) × (o.writes ≡ w.writes))
          → (w : VariableUse) × In w (v ∷ vs) × Clash system u w × (o.offset ≡ w.offset) × (o.writes ≡ w.writes)
      pick true e k later =
          let is : other_use_of v ≡ o = cc in
          (v, inl refl, clash-true u v e, ap (λ (z : OtherUse). z.offset) (sym is), ap (λ (z : OtherUse). z.writes) (sym is))
      pick false e k later = let rest = later k in (rest.0, inr rest.1, rest.2, rest.3, rest.4)

  against-none : (u : VariableUse) (vs : List VariableUse) → against system u vs ≡ None → (v : VariableUse) → In v vs → Clash system u v → ⊥
  against-none u [] h v i c = i
  against-none u (w ∷ vs) h v i c = pick (is_clash system u w) refl h i (λ k j. against-none u vs k v j c)
    where
      pick : (b : Bool) → is_clash system u w ≡ b → first_of_two b w (against system u vs) ≡ None → In v (w ∷ vs)
          → (against system u vs ≡ None → In v vs → ⊥) → ⊥
      pick true e k j later = cc
      pick false e k (inl is) later = true≢false (sym (clash-is u w (subst (λ (z : VariableUse). Clash system u z) is c)) ∙ e)
      pick false e k (inr j) later = later k j

  -- ---- the first clash of all
  first-found : (offset : ℕ) (all us : List VariableUse) (o : OtherUse) → first_clash system offset all us ≡ Some o
      → (u v : VariableUse) × In u us × In v all × Clash system u v × (u.offset ≡ offset) × (o.offset ≡ v.offset) × (o.writes ≡ v.writes)
  first-found offset all [] o h = cc
  first-found offset all (w ∷ us) o h = pick (w.offset == offset) refl (against system w all) refl h (first-found offset all us o)
    where
      behind-it : ((u v : VariableUse) × In u us × In v all × Clash system u v × (u.offset ≡ offset) × (o.offset ≡ v.offset) × (o.writes ≡ v.writes))
          → (u v : VariableUse) × In u (w ∷ us) × In v all × Clash system u v × (u.offset ≡ offset) × (o.offset ≡ v.offset) × (o.writes ≡ v.writes)
      behind-it rest = (rest.0, rest.1, inr rest.2, rest.3, rest.4, rest.5, rest.6, rest.7)

      pick : (b : Bool) → (w.offset == offset) ≡ b → (r : Option OtherUse) → against system w all ≡ r → or_else (asked b r) (first_clash system offset all us) ≡ Some o
          → (first_clash system offset all us ≡ Some o → (u v : VariableUse) × In u us × In v all × Clash system u v × (u.offset ≡ offset) × (o.offset ≡ v.offset) × (o.writes ≡ v.writes))
          → (u v : VariableUse) × In u (w ∷ us) × In v all × Clash system u v × (u.offset ≡ offset) × (o.offset ≡ v.offset) × (o.writes ≡ v.writes)
      pick true e (Some p) f k later =
          let is : p ≡ o = cc in
          let found = against-found w all o (f ∙ ap (λ (z : OtherUse). Some z) is) in
          (w, found.0, inl refl, found.1, found.2, eqb-true w.offset offset e, found.3, found.4)
      pick true e None f k later = behind-it (later k)
      pick false e r f k later = behind-it (later k)

  first-none : (offset : ℕ) (all us : List VariableUse) → first_clash system offset all us ≡ None
      → (u v : VariableUse) → In u us → In v all → Clash system u v → offset ≡ u.offset → ⊥
  first-none offset all [] h u v i j c at = i
  first-none offset all (w ∷ us) h u v i j c at =
      pick (w.offset == offset) refl (against system w all) refl h i (λ k n. first-none offset all us k u v n j c at)
    where
      pick : (b : Bool) → (w.offset == offset) ≡ b → (r : Option OtherUse) → against system w all ≡ r → or_else (asked b r) (first_clash system offset all us) ≡ None
          → In u (w ∷ us) → (first_clash system offset all us ≡ None → In u us → ⊥) → ⊥
      pick true e (Some p) f k n later = cc
      pick true e None f k (inl is) later = against-none w all f v j (subst (λ (z : VariableUse). Clash system z v) is c)
      pick true e None f k (inr n) later = later k n
      pick false e r f k (inl is) later =
          true≢false (sym (eq-eqb w.offset offset (ap (λ (z : VariableUse). z.offset) (sym is) ∙ sym at)) ∙ e)
      pick false e r f k (inr n) later = later k n

  pub tells : (offset : ℕ) (r : Option OtherUse) → r ≡ first_clash system offset (uses_of system.main) (uses_of system.main) → TellsOther system offset r
  tells offset None e = λ h. first-none offset (uses_of system.main) (uses_of system.main) (sym e) h.0 h.1 h.2 h.3 h.4 h.5
  tells offset (Some o) e = first-found offset (uses_of system.main) (uses_of system.main) o (sym e)
