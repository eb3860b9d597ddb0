-- What a state offers behind a place.
use Rattle.std.proofs.Common.{◌≡◌, ◌⊎◌, inl, inr, ℕ, ◌<◌, List, [], ◌∷◌, ◌++◌, Bool, true, false, not, IsTrue, MatchBool, ◌↔◌, Some, None, refl, sym, ap, ◌∙◌, subst, arith}
use Rattle.std.proofs.lemmas.Bool.{cases_order}
use Rattle.std.proofs.lemmas.List.{append_assoc, append-nil}
use Rattle.address.specs.Places.{Before}
use Rattle.address.specs.declared.Entry.{Entry}
use Rattle.address.specs.declared.Entry.TheVariants.{Ordered, Branch}
use Rattle.address.proofs.public.Places.{before-append, before-irreflexive, before-left, before-not-apart}
use Rattle.syntax.specs.Lists.{In}
use Rattle.runs.specs.Moves.{Place}
use Rattle.runs.specs.Steps.{State}
use Rattle.runs.specs.WellFormed.{WellFormed}
use Rattle.runs.proofs.public.AtOnce.{apart_now}
use Rattle.local_actions.specs.Actions.{Offered, Under}
use Rattle.local_actions.specs.declared.action.LocalAction.{LocalAction}
use Rattle.idle_branches.specs.Idle.{HasBehind}
use Rattle.idle_branches.specs.internal.Behind.{AreOfOneChild, OffersInChild, OffersUnder, PastEntry}

-- ---- places
-- what comes behind a place comes behind all below it
before-below : (p z rest : Place) → Before p z → Before (p ++ rest) z
before-below p z rest h = subst (λ (q : Place). Before (p ++ rest) q) (append-nil z) (before-append p z rest [] h)

-- a branch at the end changes nothing
past-branch : (p z : Place) (k : ℕ) → Before (p ++ Branch k ∷ []) z → Before p z
past-branch [] [] k h = absurd h
past-branch [] (Ordered j ∷ z) k h = absurd h
past-branch [] (Branch j ∷ z) k h = absurd h.1
past-branch (Ordered i ∷ p) [] k h = absurd h
past-branch (Branch i ∷ p) [] k h = absurd h
past-branch (Ordered i ∷ p) (Branch j ∷ z) k h = absurd h
past-branch (Branch i ∷ p) (Ordered j ∷ z) k h = absurd h
past-branch (Ordered i ∷ p) (Ordered j ∷ z) k (inl less) = inl less
past-branch (Ordered i ∷ p) (Ordered j ∷ z) k (inr (same, h)) = inr (same, past-branch p z k h)
past-branch (Branch i ∷ p) (Branch j ∷ z) k (same, h) = (same, past-branch p z k h)

-- it is in a child of p behind child n
record Later (p : Place) (n : ℕ) (z : Place) : Type 0 where
  pub number : ℕ
  pub rest : Place
  pub less : n < number
  pub is : z ≡ p ++ Ordered number ∷ rest

-- one entry further down
deeper : (x : Entry) (p : Place) (n : ℕ) (z : Place) → Later p n z → Later (x ∷ p) n (x ∷ z)
deeper x p n z later = record {
  number = later.number;
  rest = later.rest;
  less = later.less;
  is = ap (λ (q : Place). x ∷ q) later.is;
}

past-ordered : (p z : Place) (n : ℕ) → Before (p ++ Ordered n ∷ []) z → Before p z ⊎ Later p n z
past-ordered [] [] n h = absurd h
past-ordered [] (Branch j ∷ z) n h = absurd h
past-ordered [] (Ordered j ∷ z) n (inl less) = inr (record { number = j; rest = z; less = less; is = refl })
past-ordered [] (Ordered j ∷ z) n (inr (same, h)) = absurd h
past-ordered (Ordered i ∷ p) [] n h = absurd h
past-ordered (Branch i ∷ p) [] n h = absurd h
past-ordered (Ordered i ∷ p) (Branch j ∷ z) n h = absurd h
past-ordered (Branch i ∷ p) (Ordered j ∷ z) n h = absurd h
past-ordered (Ordered i ∷ p) (Ordered j ∷ z) n (inl less) = inl (inl less)
past-ordered (Ordered i ∷ p) (Ordered j ∷ z) n (inr (same, h)) = elim (past-ordered p z n h) [
  | inl before ↦ inl (inr (same, before))
  | inr later ↦ inr (subst (λ (m : ℕ). Later (Ordered i ∷ p) n (Ordered m ∷ z)) same (deeper (Ordered i) p n z later))
]
past-ordered (Branch i ∷ p) (Branch j ∷ z) n (same, h) = elim (past-ordered p z n h) [
  | inl before ↦ inl (same, before)
  | inr later ↦ inr (subst (λ (m : ℕ). Later (Branch i ∷ p) n (Branch m ∷ z)) same (deeper (Branch i) p n z later))
]

-- below a child
child-rest : (p : Place) (x : Entry) (rest : Place) → (p ++ x ∷ []) ++ rest ≡ p ++ x ∷ rest
child-rest p x rest = append_assoc p (x ∷ []) rest

under-parent : (p : Place) (x : Entry) (a : Place) → Under (p ++ x ∷ []) a → Under p a
under-parent p x a u = (x ∷ u.0, u.1 ∙ child-rest p x u.0)

-- ---- one state
module _ (S : State) (formed : WellFormed S.residual) where
  -- of two that are offered none comes behind the other
  none-behind : (x y : LocalAction) → Offered S x → Offered S y → Before x.place y.place → ⊥
  none-behind x y one two before =
      elim (apart_now S.residual x.place one.move one.after y.place two.move two.after formed one.possible two.possible) [
        | inl same ↦ before-irreflexive y.place (subst (λ (a : Place). Before a y.place) same before)
        | inr apart ↦ before-not-apart x.place y.place before apart
      ]

  -- nor where they are in these children
  none-less : (p : Place) (i j : ℕ) (a b : Place) (x y : LocalAction) → Offered S x → Offered S y → x.place ≡ p ++ Ordered i ∷ a
      → y.place ≡ p ++ Ordered j ∷ b → i < j → ⊥
  none-less p i j a b x y one two here there less =
      none-behind x y one two
      (subst (λ (q : Place). Before q y.place) (sym here)
      (subst (λ (q : Place). Before (p ++ Ordered i ∷ a) q) (sym there) ((before-left p (Ordered i ∷ a) (Ordered j ∷ b)).1 (inl less))))

  -- so they are in one
  one-child : (p : Place) (i j : ℕ) (a b : Place) (x y : LocalAction) → Offered S x → Offered S y → x.place ≡ p ++ Ordered i ∷ a
      → y.place ≡ p ++ Ordered j ∷ b → i ≡ j
  one-child p i j a b x y one two here there = elim (cases_order i j) [
    | inl same ↦ same
    | inr (inl less) ↦ absurd (none-less p i j a b x y one two here there less)
    | inr (inr more) ↦ absurd (none-less p j i b a y x two one there here more)
  ]

  -- where something is offered in p, what comes behind a child of it is in p
  later-only : (p : Place) (n : ℕ) (y z : LocalAction) → Offered S y → Under p y.place → Offered S z
      → Before (p ++ Ordered n ∷ []) z.place → Later p n z.place
  later-only p n y z one under two before = elim (past-ordered p z.place n before) [
    | inl above ↦ absurd (none-behind y z one two
        (subst (λ (a : Place). Before a z.place) (sym under.1) (before-below p z.place under.0 above)))
    | inr later ↦ later
  ]

  -- ---- what is found
  -- in the next child
  pub next-found : (p : Place) (n : ℕ) (found : List LocalAction) (y : LocalAction) → In y found → AreOfOneChild S p found
      → HasBehind S (p ++ Ordered n ∷ []) found
  next-found p n found y among are z offered before =
      let one = are y among in
      let m : ℕ = one.1.0 in
      let later = later-only p n y z one.0 (under-parent p (Ordered m) y.place one.1.1) offered before in
      let here : y.place ≡ p ++ Ordered m ∷ one.1.1.0 = one.1.1.1 ∙ child-rest p (Ordered m) one.1.1.0 in
      let same : m ≡ later.number = one-child p m later.number one.1.1.0 later.rest y z one.0 offered here later.is in
      let there : z.place ≡ p ++ Ordered m ∷ later.rest =
      later.is ∙ ap (λ (k : ℕ). p ++ Ordered k ∷ later.rest) (sym same) in
      one.1.2 z offered (later.rest, there ∙ sym (child-rest p (Ordered m) later.rest))

  -- where this child is at work
  pub none-found : (p : Place) (n : ℕ) → OffersInChild S p n → HasBehind S (p ++ Ordered n ∷ []) []
  none-found p n (y, one, under) z offered before =
      let later = later-only p n y z one (under-parent p (Ordered n) y.place under) offered before in
      let here : y.place ≡ p ++ Ordered n ∷ under.0 = under.1 ∙ child-rest p (Ordered n) under.0 in
      let same : n ≡ later.number = one-child p n later.number under.0 later.rest y z one offered here later.is in
      let less : n < later.number = later.less in
      absurd (omega arith)

  -- all that is offered in p
  pub all-found : (p : Place) (n : ℕ) (found : List LocalAction) (y : LocalAction) → In y found
      → ((x : LocalAction) → In x found ↔ (Offered S x × Under p x.place)) → HasBehind S (p ++ Ordered n ∷ []) found
  all-found p n found y among exactly z offered before =
      let one = (exactly y).0 among in
      let later = later-only p n y z one.0 one.1 offered before in
      (exactly z).1 (offered, (Ordered later.number ∷ later.rest, later.is))

  -- or nothing
  pub goes-on : (p : Place) (n : ℕ) (found : List LocalAction) → found ≡ []
      → ((x : LocalAction) → In x found ↔ (Offered S x × Under p x.place)) → PastEntry S p (Ordered n) None
  goes-on p n found none exactly z offered before = elim (past-ordered p z.place n before) [
    | inl above ↦ above
    | inr later ↦ absurd (subst (λ (xs : List LocalAction). In z xs) none
        ((exactly z).1 (offered, (Ordered later.number ∷ later.rest, later.is))))
  ]

pub branch-passed : (S : State) (p : Place) (k : ℕ) → PastEntry S p (Branch k) None
branch-passed S p k z offered before = past-branch p z.place k before

-- ---- lists
-- one of some
pub some-in : {X : Type 0} (xs : List X) → (xs ≡ [] → ⊥) → (x : X) × In x xs
some-in [] some = absurd (some refl)
some-in (x ∷ xs) some = (x, inl refl)

-- whether a list is empty
none-there : {X : Type 0} (xs : List X) (b : Bool) → IsTrue b ↔ (xs ≡ []) → b ≡ true → xs ≡ []
none-there xs b is on = is.0 on

some-there : {X : Type 0} (xs : List X) (b : Bool) → IsTrue b ↔ (xs ≡ []) → b ≡ false → (x : X) × In x xs
some-there xs b is off = some-in xs (λ none. true-false b (is.1 none) off)
  where
    true-false : (t : Bool) → t ≡ true → t ≡ false → ⊥
    true-false t one other = cc

-- exactly what is offered at the place and below it
abbrev pub AreUnder : State → Place → List LocalAction → Type 0
AreUnder S p found = (x : LocalAction) → In x found ↔ (Offered S x × Under p x.place)

pub found-under : (S : State) (p : Place) (e : Entry) (found : List LocalAction) (b : Bool) → IsTrue b ↔ (found ≡ [])
    → AreUnder S (p ++ e ∷ []) found → MatchBool (not b) (OffersUnder S p) (Unit {0})
found-under S p e found true is exactly = tt
found-under S p e found false is exactly =
    let some = some-there found false is refl in
    let one = (exactly some.0).0 some.1 in (some.0, one.0, under-parent p e some.0.place one.1)

pub next-ends : (S : State) (p : Place) (n : ℕ) (found : List LocalAction) (b : Bool) → IsTrue b ↔ (found ≡ []) → b ≡ false
    → AreOfOneChild S p found → WellFormed S.residual → PastEntry S p (Ordered n) (Some found)
next-ends S p n found b is off are formed =
    let some = some-there found b is off in next-found S formed p n found some.0 some.1 are

pub all-ends : (S : State) (p : Place) (n : ℕ) (found : List LocalAction) (b : Bool) → IsTrue b ↔ (found ≡ []) → b ≡ false
    → AreUnder S p found → WellFormed S.residual → PastEntry S p (Ordered n) (Some found)
all-ends S p n found b is off exactly formed =
    let some = some-there found b is off in all-found S formed p n found some.0 some.1 exactly

pub none-ends : (S : State) (p : Place) (n : ℕ) (found : List LocalAction) (b : Bool) → IsTrue b ↔ (found ≡ []) → b ≡ true
    → AreUnder S p found → WellFormed S.residual → PastEntry S p (Ordered n) None
none-ends S p n found b is on exactly formed = goes-on S formed p n found (none-there found b is on) exactly

pub beside-ends : (S : State) (p : Place) (n : ℕ) (b : Bool) → MatchBool b (OffersInChild S p n) (Unit {0}) → b ≡ true
    → WellFormed S.residual → PastEntry S p (Ordered n) (Some [])
beside-ends S p n true found on formed = none-found S formed p n found
beside-ends S p n false found on formed = cc

-- ---- entry by entry
-- what comes behind the whole place comes behind this beginning of it
abbrev pub ComesBehind : State → Place → Place → Type 0
ComesBehind S a p = (x : LocalAction) → Offered S x → Before a x.place → Before p x.place

pub has-behind : (S : State) (a rest p : Place) (e : Entry) (found : List LocalAction) → rest ≡ p ++ e ∷ [] → ComesBehind S a rest
    → PastEntry S p e (Some found) → HasBehind S a found
has-behind S a rest p e found is comes past x offered before =
    past x offered (subst (λ (q : Place). Before q x.place) is (comes x offered before))

pub comes-behind : (S : State) (a rest p : Place) (e : Entry) → rest ≡ p ++ e ∷ [] → ComesBehind S a rest → PastEntry S p e None
    → ComesBehind S a p
comes-behind S a rest p e is comes past x offered before =
    past x offered (subst (λ (q : Place). Before q x.place) is (comes x offered before))

pub nothing-behind : (S : State) (a rest : Place) → rest ≡ [] → ComesBehind S a rest → HasBehind S a []
nothing-behind S a rest is comes x offered before =
    subst (λ (q : Place). Before q x.place) is (comes x offered before)
