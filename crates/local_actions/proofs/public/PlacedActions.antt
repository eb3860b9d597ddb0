-- The actions at one place and below it: what a walk down along it finds is what all that is listed has there.
use Rattle.std.proofs.Common.{◌≡◌, ℕ, zero, suc, ◌+◌, ◌*◌, ◌<◌, List, [], ◌∷◌, ◌++◌, length, Bool, true, false, ◌&&◌, cond, Option, Some, None, refl, sym, ap, ap₂, ◌∙◌, subst, eqb-true, eq-eqb, ne_eqb, arith, ◌↔◌, inl, inr}
use Rattle.std.proofs.lemmas.Bool.{and_parts, and_from}
use Rattle.std.proofs.lemmas.List.{append-nil}
use Rattle.address.specs.declared.Entry.{Entry}
use Rattle.address.specs.declared.Entry.TheVariants.{Ordered, Branch}
use Rattle.syntax.specs.Lists.{In}
use Rattle.system.specs.Expression.{Store, Expression}
use Rattle.runs.specs.Moves.{Place}
use Rattle.runs.proofs.public.Options.{none-some, some-injective}
use Rattle.process_tree.specs.Children.{proc_at}
use Rattle.process_tree.specs.Remaining.{Received}
use Rattle.process_tree.specs.Proc.{Proc, Procs, no_procs, proc}
use Rattle.local_actions.specs.Actions.{Under}
use Rattle.runs.specs.Tests.{same_entry, same_place}
use Rattle.local_actions.specs.internal.At.{is_under, under}
use Rattle.local_actions.specs.Walk.{action_at}
use Rattle.local_actions.specs.internal.Listed.{behind, again_at, Listing, nothing, at_work, one_after, listed, listed_sequence, listed_parallel}
use Rattle.local_actions.specs.declared.action.LocalAction.{LocalAction}
use Rattle.local_actions.proofs.public.OneByOne.{over-nothing, listed-step}

-- ---- places that are the same
entry-true : (x y : Entry) → same_entry x y ≡ true → x ≡ y
entry-true (Ordered i) (Ordered j) h = ap Ordered (eqb-true i j h)
entry-true (Ordered i) (Branch j) h = cc
entry-true (Branch i) (Ordered j) h = cc
entry-true (Branch i) (Branch j) h = ap Branch (eqb-true i j h)

pub entry-itself : (x : Entry) → same_entry x x ≡ true
entry-itself (Ordered i) = eq-eqb i i refl
entry-itself (Branch i) = eq-eqb i i refl

pub place-true : (a b : Place) → same_place a b ≡ true → a ≡ b
place-true [] [] h = refl
place-true [] (y ∷ b) h = cc
place-true (x ∷ a) [] h = cc
place-true (x ∷ a) (y ∷ b) h =
    let both = and_parts (same_entry x y) (same_place a b) h in
    ap₂ (λ (z : Entry) (c : Place). z ∷ c) (entry-true x y both.0) (place-true a b both.1)

pub place-itself : (a : Place) → same_place a a ≡ true
place-itself [] = refl
place-itself (x ∷ a) = and_from (same_entry x x) (same_place a a) (entry-itself x) (place-itself a)

-- a place is that one or below it
pub under-true : (a b : Place) → is_under a b ≡ true → Under a b
under-true [] b h = (b, refl)
under-true (x ∷ a) [] h = cc
under-true (x ∷ a) (y ∷ b) h =
    let both = and_parts (same_entry x y) (is_under a b) h in
    let rest = under-true a b both.1 in
    (rest.0, ap₂ (λ (z : Entry) (c : Place). z ∷ c) (sym (entry-true x y both.0)) rest.1)

-- below a place
same-below : (p a b : Place) → is_under (p ++ a) (p ++ b) ≡ is_under a b
same-below [] a b = refl
same-below (x ∷ p) a b = ap (λ c. c && is_under (p ++ a) (p ++ b)) (entry-itself x) ∙ same-below p a b

under-behind : (a rest : Place) → is_under a (a ++ rest) ≡ true
under-behind [] rest = refl
under-behind (x ∷ a) rest = and_from (same_entry x x) (is_under a (a ++ rest)) (entry-itself x) (under-behind a rest)

pub under-told : (a b : Place) → Under a b → is_under a b ≡ true
under-told a b u = ap (is_under a) u.1 ∙ under-behind a u.0

pub under-itself : (a : Place) → Under a a
under-itself a = under-true a a (subst (λ (b : Place). is_under a b ≡ true) (append-nil a) (under-behind a []))

-- the test of the code
pub told-same : (a b : Place) (t : Bool) → (t ≡ true) ↔ (a ≡ b) → t ≡ same_place a b
told-same a b t h = pick t (same_place a b) refl h.0 h.1
  where
    pick : (t u : Bool) → same_place a b ≡ u → (t ≡ true → a ≡ b) → (a ≡ b → t ≡ true) → t ≡ u
    pick true true e f g = refl
    pick false false e f g = refl
    pick true false e f g = sym (place-itself a) ∙ ap (same_place a) (f refl) ∙ e
    pick false true e f g = g (place-true a b e)

-- ---- actions at a place and below it
both-cond : (b : Bool) (r : LocalAction) (xs ys : List LocalAction) → cond b (r ∷ xs) xs ++ ys ≡ cond b (r ∷ (xs ++ ys)) (xs ++ ys)
both-cond true r xs ys = refl
both-cond false r xs ys = refl

pub under-both : (a : Place) (xs ys : List LocalAction) → under a (xs ++ ys) ≡ under a xs ++ under a ys
under-both a [] ys = refl
under-both a (r ∷ xs) ys = ap (λ l. cond (is_under a r.place) (r ∷ l) l) (under-both a xs ys) ∙ sym (both-cond (is_under a r.place) r (under a xs) (under a ys))

-- nothing behind another entry is at the place
pub under-other : (a : Place) (x : Entry) (rs : List LocalAction) → 0 < length a → ((b : Place) → a ≡ x ∷ b → ⊥) → under a (behind x rs) ≡ []
under-other [] x rs l h = absurd (omega (arith, l))
under-other (y ∷ a) x [] l h = refl
under-other (y ∷ a) x (r ∷ rs) l h = pick (same_entry y x) refl (under-other (y ∷ a) x rs l h)
  where
    pick : (b : Bool) → same_entry y x ≡ b → under (y ∷ a) (behind x rs) ≡ []
        → cond (b && is_under a r.place) (action_at (x ∷ r.place) r.action ∷ under (y ∷ a) (behind x rs)) (under (y ∷ a) (behind x rs)) ≡ []
    pick true e k = absurd (h a (ap (λ (z : Entry). z ∷ a) (entry-true y x e)))
    pick false e k = k

-- nor at another number
ordered-same : (i j : ℕ) (a b : Place) → ◌≡◌ {A = Place} (Ordered i ∷ a) (Ordered j ∷ b) → i ≡ j
ordered-same i j a b e = cc

branch-same : (i j : ℕ) (a b : Place) → ◌≡◌ {A = Place} (Branch i ∷ a) (Branch j ∷ b) → i ≡ j
branch-same i j a b e = cc

pub under-number : (i j : ℕ) (a : Place) (rs : List LocalAction) → (i ≡ j → ⊥) → under (Ordered i ∷ a) (behind (Ordered j) rs) ≡ []
under-number i j a rs h = under-other (Ordered i ∷ a) (Ordered j) rs (omega arith) (λ b e. h (ordered-same i j a b e))

under-branch-number : (i j : ℕ) (a : Place) (rs : List LocalAction) → (i ≡ j → ⊥) → under (Branch i ∷ a) (behind (Branch j) rs) ≡ []
under-branch-number i j a rs h = under-other (Branch i ∷ a) (Branch j) rs (omega arith) (λ b e. h (branch-same i j a b e))

-- a loop before a turn offers nothing in a body
pub under-again : (s : Store) (n i : ℕ) (g : Option Expression) (a : Place) → (i ≡ 2 * n → ⊥) → under (Ordered i ∷ a) (again_at s n g) ≡ []
under-again s n i None a h = ap (λ b. cond (b && is_under a []) (again_at s n None) []) (ne_eqb i (2 * n) h)
under-again s n i (Some e) a h = ap (λ b. cond (b && is_under a []) (again_at s n (Some e)) []) (ne_eqb i (2 * n) h)

-- ---- a child, and what comes after it
-- in the child
pub under-child : (i : ℕ) (x rest : Listing) (a : Place) → (x.over ≡ true → x.actions ≡ []) → under (Ordered i ∷ a) rest.actions ≡ []
    → under (Ordered i ∷ a) (behind (Ordered i) x.actions) ≡ under (Ordered i ∷ a) (one_after i x rest).actions
under-child i x rest a h k = pick x.over h
  where
    pick : (b : Bool) → (b ≡ true → x.actions ≡ []) → under (Ordered i ∷ a) (behind (Ordered i) x.actions) ≡ under (Ordered i ∷ a) (cond b rest (at_work (behind (Ordered i) x.actions))).actions
    pick true h = ap (λ l. under (Ordered i ∷ a) (behind (Ordered i) l)) (h refl) ∙ sym k
    pick false h = refl

-- elsewhere nothing while it is not over
pub under-open : (i : ℕ) (x rest : Listing) (a : Place) (b : Bool) → 0 < length a → ((c : Place) → a ≡ Ordered i ∷ c → ⊥) → b ≡ x.over → b ≡ false → under a (one_after i x rest).actions ≡ []
under-open i x rest a b l h e f = ap (λ o. under a (cond o rest (at_work (behind (Ordered i) x.actions))).actions) (sym e ∙ f) ∙ under-other a (Ordered i) x.actions l h

-- nothing behind another number is there, where nothing is there after it
pub none-after : (i n : ℕ) (a : Place) (x rest : Listing) → (i ≡ n → ⊥) → under (Ordered i ∷ a) rest.actions ≡ [] → under (Ordered i ∷ a) (one_after n x rest).actions ≡ []
none-after i n a x rest h k = pick x.over
  where
    pick : (o : Bool) → under (Ordered i ∷ a) (cond o rest (at_work (behind (Ordered n) x.actions))).actions ≡ []
    pick true = k
    pick false = under-number i n a x.actions h

-- ---- sequences
-- later children are not at the place
pub under-later : (s : Store) (env : Received) (ps : Procs) (k n i : ℕ) (a : Place) → i < n + k → under (Ordered i ∷ a) (listed_sequence s env k n ps).actions ≡ []
under-later s env no_procs zero n i a l = refl
under-later s env no_procs (suc k) n i a l = refl
under-later s env (proc p ps) zero n i a l =
    none-after i n a (listed s env p) (listed_sequence s env zero (n + 1) ps) (λ e. omega (arith, l, e)) (under-later s env ps zero (n + 1) i a (omega (arith, l)))
under-later s env (proc p ps) (suc k) n i a l = under-later s env ps k (n + 1) i a (omega (arith, l))

-- the child to which a sequence has come
pub under-come : (s : Store) (env : Received) (ps : Procs) (i : ℕ) (p : Proc) (a : Place) → proc_at ps i ≡ Some p
    → under (Ordered i ∷ a) (behind (Ordered i) (listed s env p).actions) ≡ under (Ordered i ∷ a) (listed_sequence s env i 0 ps).actions
under-come s env ps i p a h =
    under-child i (listed s env p) (listed_sequence s env (suc i) 0 ps) a (over-nothing s env p) (under-later s env ps (suc i) 0 i a (omega arith))
    ∙ ap (λ (l : Listing). under (Ordered i ∷ a) l.actions) (sym (listed-step s env ps i 0 i p h (omega arith)))

-- where there is no such child
pub past-all : (s : Store) (env : Received) (ps : Procs) (k n : ℕ) → proc_at ps k ≡ None → listed_sequence s env k n ps ≡ nothing
past-all s env no_procs zero n h = refl
past-all s env no_procs (suc k) n h = refl
past-all s env (proc p ps) zero n h = none-some p (sym h)
past-all s env (proc p ps) (suc k) n h = past-all s env ps k (n + 1) h

-- no child is at the place
pub under-no-child : (s : Store) (env : Received) (ps : Procs) (k n : ℕ) (a : Place) → 0 < length a → ((i : ℕ) (b : Place) → a ≡ Ordered i ∷ b → ⊥) → under a (listed_sequence s env k n ps).actions ≡ []
under-no-child s env no_procs zero n a l h = refl
under-no-child s env no_procs (suc k) n a l h = refl
under-no-child s env (proc p ps) zero n a l h = pick (listed s env p).over (under-no-child s env ps zero (n + 1) a l h)
  where
    pick : (o : Bool) → under a (listed_sequence s env zero (n + 1) ps).actions ≡ [] → under a (cond o (listed_sequence s env zero (n + 1) ps) (at_work (behind (Ordered n) (listed s env p).actions))).actions ≡ []
    pick true k = k
    pick false k = under-other a (Ordered n) (listed s env p).actions l (h n)
under-no-child s env (proc p ps) (suc k) n a l h = under-no-child s env ps k (n + 1) a l h

-- ---- parallels
lesser-branch : (s : Store) (env : Received) (ps : Procs) (n m : ℕ) (a : Place) → m < n → under (Branch m ∷ a) (listed_parallel s env n ps).actions ≡ []
lesser-branch s env no_procs n m a l = refl
lesser-branch s env (proc p ps) n m a l =
    under-both (Branch m ∷ a) (behind (Branch n) (listed s env p).actions) (listed_parallel s env (n + 1) ps).actions
    ∙ ap₂ (λ (xs ys : List LocalAction). xs ++ ys) (under-branch-number m n a (listed s env p).actions (λ e. omega (arith, l, e))) (lesser-branch s env ps (n + 1) m a (omega (arith, l)))

append-none : (xs : List LocalAction) → xs ++ [] ≡ xs
append-none [] = refl
append-none (x ∷ xs) = ap (λ l. x ∷ l) (append-none xs)

-- the branch of the place
pub under-branch : (s : Store) (env : Received) (ps : Procs) (k n m : ℕ) (p : Proc) (a : Place) → proc_at ps k ≡ Some p → m ≡ n + k
    → under (Branch m ∷ a) (behind (Branch m) (listed s env p).actions) ≡ under (Branch m ∷ a) (listed_parallel s env n ps).actions
under-branch s env no_procs k n m p a h e = none-some p h
under-branch s env (proc q ps) zero n m p a h e =
    let here : n ≡ m = omega (arith, e) in
    sym (
    under-both (Branch m ∷ a) (behind (Branch n) (listed s env q).actions) (listed_parallel s env (n + 1) ps).actions
    ∙ ap₂ (λ (xs ys : List LocalAction). xs ++ ys) (ap₂ (λ j (x : Proc). under (Branch m ∷ a) (behind (Branch j) (listed s env x).actions)) here (some-injective q p h))
    (lesser-branch s env ps (n + 1) m a (omega (arith, e)))
    ∙ append-none (under (Branch m ∷ a) (behind (Branch m) (listed s env p).actions))
    )
under-branch s env (proc q ps) (suc k) n m p a h e =
    under-branch s env ps k (n + 1) m p a h (omega (arith, e))
    ∙ sym (
    under-both (Branch m ∷ a) (behind (Branch n) (listed s env q).actions) (listed_parallel s env (n + 1) ps).actions
    ∙ ap (λ (l : List LocalAction). l ++ under (Branch m ∷ a) (listed_parallel s env (n + 1) ps).actions) (under-branch-number m n a (listed s env q).actions (λ i. omega (arith, e, i)))
    )

-- where there is none
pub under-no-branch : (s : Store) (env : Received) (ps : Procs) (k n m : ℕ) (a : Place) → proc_at ps k ≡ None → m ≡ n + k → under (Branch m ∷ a) (listed_parallel s env n ps).actions ≡ []
under-no-branch s env no_procs k n m a h e = refl
under-no-branch s env (proc q ps) zero n m a h e = none-some q (sym h)
under-no-branch s env (proc q ps) (suc k) n m a h e =
    under-both (Branch m ∷ a) (behind (Branch n) (listed s env q).actions) (listed_parallel s env (n + 1) ps).actions
    ∙ ap₂ (λ (xs ys : List LocalAction). xs ++ ys) (under-branch-number m n a (listed s env q).actions (λ i. omega (arith, e, i))) (under-no-branch s env ps k (n + 1) m a h (omega (arith, e)))

pub under-not-branch : (s : Store) (env : Received) (ps : Procs) (n : ℕ) (a : Place) → 0 < length a → ((i : ℕ) (b : Place) → a ≡ Branch i ∷ b → ⊥) → under a (listed_parallel s env n ps).actions ≡ []
under-not-branch s env no_procs n a l h = refl
under-not-branch s env (proc p ps) n a l h =
    under-both a (behind (Branch n) (listed s env p).actions) (listed_parallel s env (n + 1) ps).actions
    ∙ ap₂ (λ (xs ys : List LocalAction). xs ++ ys) (under-other a (Branch n) (listed s env p).actions l (h n)) (under-not-branch s env ps (n + 1) a l h)

-- ---- what is at a place and below it
found-under : (a : Place) (x : LocalAction) (rs : List LocalAction) → In x (under a rs) → In x rs × Under a x.place
found-under a x [] i = absurd i
found-under a x (r ∷ rs) i = pick (is_under a r.place) refl (found-under a x rs) i
  where
    pick : (b : Bool) → is_under a r.place ≡ b → (In x (under a rs) → In x rs × Under a x.place) → In x (cond b (r ∷ under a rs) (under a rs)) → In x (r ∷ rs) × Under a x.place
    pick true e later j = elim j [
      | inl u ↦ (inl u, subst (λ (y : LocalAction). Under a y.place) (sym u) (under-true a r.place e))
      | inr u ↦ let rest = later u in (inr rest.0, rest.1)
    ]
    pick false e later j = let rest = later j in (inr rest.0, rest.1)

kept-under : (a : Place) (x : LocalAction) (rs : List LocalAction) → In x rs → Under a x.place → In x (under a rs)
kept-under a x [] i h = absurd i
kept-under a x (r ∷ rs) i h = pick (is_under a r.place) refl (λ u. kept-under a x rs u h) i
  where
    pick : (b : Bool) → is_under a r.place ≡ b → (In x rs → In x (under a rs)) → In x (r ∷ rs) → In x (cond b (r ∷ under a rs) (under a rs))
    pick true e later j = elim j [ inl u ↦ inl u | inr u ↦ inr (later u) ]
    pick false e later j = elim j [
      | inl u ↦ let told : is_under a r.place ≡ true = ap (λ (y : LocalAction). is_under a y.place) (sym u) ∙ under-told a x.place h in cc
      | inr u ↦ later u
    ]

pub in-under : (a : Place) (x : LocalAction) (rs : List LocalAction) → In x (under a rs) ↔ (In x rs × Under a x.place)
in-under a x rs = (found-under a x rs, λ h. kept-under a x rs h.0 h.1)

-- below the root are all
pub under-root : (rs : List LocalAction) → under [] rs ≡ rs
under-root [] = refl
under-root (r ∷ rs) = ap (λ l. r ∷ l) (under-root rs)
