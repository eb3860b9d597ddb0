-- What is gathered, part by part.
use Rattle.std.proofs.Common.{◌≡◌, inl, inr, ℕ, zero, suc, ◌+◌, ◌<◌, ◌≤◌, List, [], ◌∷◌, ◌++◌, length, map, drop, get_or, Option, Some, None, Result, Ok, Err, refl, sym, ap, ◌∙◌, subst, arith}
use Rattle.std.specs.Prelude.{OnOk, slice_set}
use Rattle.std.proofs.lemmas.List.{drop_all, drop_more, length-append}
use Rattle.syntax.specs.Lists.{In, Every}
use Rattle.system.specs.Residual.{Residual, send, sync}
use Rattle.system.specs.Expression.{constant}
use Rattle.system.specs.Translation.{OnChannel, arms_of, branch_of, choose_of, in_parallel, in_sequence, feed_from, syncs_from}
use Rattle.system.specs.declared.system.System.{System}
use Rattle.system_places.specs.SystemBranches.{parallel_of}
use Rattle.value.specs.Word.{Word}
use Rattle.runs.proofs.public.Lists.{in-left, in-right}
use Rattle.idle_branches.specs.declared.ends.Ends.{Ends}
use Rattle.idle_branches.specs.declared.used.Used.{Used}
use Rattle.idle_branches.specs.internal.Known.{Known, Acts, FitEach, Fits, FitsArms, Gives, Grows, known_at, list_at, parts, parts_of}
use Rattle.idle_branches.specs.internal.Gathering.{Adds, FitsArm, FitsLast, Holds}
use Rattle.idle_branches.specs.internal.Gathered.{AddsParts}
use Rattle.idle_branches.proofs.FitsLemmas.{fits-along, fits-within}
use Rattle.idle_branches.proofs.ChainLemmas.{each-both}

-- ---- what an outcome tells
pub on-ok : {X E P Q : Type 0} (r : Result X E) → (P → Q) → OnOk r P → OnOk r Q
on-ok (Ok x) f p = f p
on-ok (Err e) f p = tt

-- ---- what is added
pub adds-map : (k : ℕ) (a b : Used) (P Q : Known → Type 0) → ((u : Known) → P u → Q u) → Adds k a P b → Adds k a Q b
adds-map k a b P Q f h u is held = let before = h u is held in (before.0, f u before.1)

pub adds-nothing : (k : ℕ) (a b : Used) → a ≡ b → Adds k a (λ u. Unit {0}) b
adds-nothing k a b same u is held = (subst (λ (c : Used). Holds c u) (sym same) held, tt)

pub adds-both : (k : ℕ) (a b c : Used) (P Q : Known → Type 0) → Adds k a P b → Adds k b Q c → Adds k a (λ u. P u × Q u) c
adds-both k a b c P Q one other u is held =
    let last = other u is held in let first = one u is last.0 in (first.0, (first.1, last.1))

pub adds-cons : {Z : Type 0} (k : ℕ) (a b c : Used) (P : Known → Z → Type 0) (z : Z) (zs : List Z) → Adds k a (λ u. P u z) b
    → Adds k b (λ u. Every (P u) zs) c → Adds k a (λ u. Every (P u) (z ∷ zs)) c
adds-cons k a b c P z zs one other = adds-both k a b c (λ u. P u z) (λ u. Every (P u) zs) one other

-- ---- what is added in loops
pub here-of : {X : Type 0} (xs : List X) (i : ℕ) (x : X) → i < length xs → x ≡ get_or xs i x → drop i xs ≡ x ∷ drop (i + 1) xs
here-of xs i x less is = drop_more xs i x less ∙ ap (λ y. y ∷ drop (i + 1) xs) (sym is)

pub all-on : {X Z : Type 0} (k : ℕ) (P : Known → Z → Type 0) (f : X → Z) (xs : List X) (i : ℕ) (x : X) (a b c : Used)
    → drop i xs ≡ x ∷ drop (i + 1) xs → Adds k a (λ u. P u (f x)) b → Adds k b (λ u. Every (P u) (map f (drop (i + 1) xs))) c
    → Adds k a (λ u. Every (P u) (map f (drop i xs))) c
all-on k P f xs i x a b c at one rest =
    subst (λ ys. Adds k a (λ u. Every (P u) (map f ys)) c) (sym at) (adds-cons k a b c P (f x) (map f (drop (i + 1) xs)) one rest)

pub two-on : {X Y Z : Type 0} (k : ℕ) (P : Known → Z → Type 0) (f : X → Y) (g : Y → Z) (xs : List X) (i : ℕ) (x : X) (a b c : Used)
    → drop i xs ≡ x ∷ drop (i + 1) xs → Adds k a (λ u. P u (g (f x))) b
    → Adds k b (λ u. Every (P u) (map g (map f (drop (i + 1) xs)))) c → Adds k a (λ u. Every (P u) (map g (map f (drop i xs)))) c
two-on k P f g xs i x a b c at one rest =
    subst (λ ys. Adds k a (λ u. Every (P u) (map g (map f ys))) c) (sym at)
    (adds-cons k a b c P (g (f x)) (map g (map f (drop (i + 1) xs))) one rest)

pub all-done : {X Z : Type 0} (k : ℕ) (P : Known → Z → Type 0) (f : X → Z) (xs : List X) (i : ℕ) (a : Used) → length xs ≤ i
    → Adds k a (λ u. Every (P u) (map f (drop i xs))) a
all-done k P f xs i a past =
    subst (λ ys. Adds k a (λ u. Every (P u) (map f ys)) a) (sym (drop_all i xs past)) (adds-nothing k a a refl)

pub two-done : {X Y Z : Type 0} (k : ℕ) (P : Known → Z → Type 0) (f : X → Y) (g : Y → Z) (xs : List X) (i : ℕ) (a : Used)
    → length xs ≤ i → Adds k a (λ u. Every (P u) (map g (map f (drop i xs)))) a
two-done k P f g xs i a past =
    subst (λ ys. Adds k a (λ u. Every (P u) (map g (map f ys))) a) (sym (drop_all i xs past)) (adds-nothing k a a refl)

-- ---- what parts are to do
pub sequence-fits : (u : Known) (n : ℕ) (rs : List Residual) → Every (Fits u) rs → Fits u (in_sequence n rs)
sequence-fits u n [] f = tt
sequence-fits u n (r ∷ rs) f = fits-within u n r (in_sequence (suc n) rs) f.0 (sequence-fits u (suc n) rs f.1)

pub parallel-fits : (u : Known) (n : ℕ) (rs : List Residual) → Every (Fits u) rs → Fits u (in_parallel n rs)
parallel-fits u n [] f = tt
parallel-fits u n (r ∷ rs) f = fits-along u n r (in_parallel (suc n) rs) f.0 (parallel-fits u (suc n) rs f.1)

pub arms-fit : (u : Known) (rs : List Residual) (last : Option Residual) → Every (Fits u) rs → FitsLast last u → FitsArms u (arms_of rs last)
arms-fit u [] None f g = tt
arms-fit u [] (Some r) f g = (g, tt)
arms-fit u (r ∷ rs) last f g = (f.0, arms-fit u rs last f.1 g)

arms-act : (u : Known) (arms : List OnChannel) → Every (FitsArm u) arms → Every (Acts u) (map (λ a. a.channel) arms)
arms-act u [] f = tt
arms-act u (a ∷ arms) f = (f.0.0, arms-act u arms f.1)

bodies-fit : (u : Known) (arms : List OnChannel) → Every (FitsArm u) arms → FitsArms u (arms_of (map (λ a. a.body) arms) None)
bodies-fit u [] f = tt
bodies-fit u (a ∷ arms) f = (f.0.1, bodies-fit u arms f.1)

pub choose-fits : (u : Known) (arms : List OnChannel) → Every (FitsArm u) arms → Fits u (choose_of arms)
choose-fits u arms f = (arms-act u arms f, bodies-fit u arms f)

pub feed-fits : (u : Known) (k c w : ℕ) (vs : List Word) → Gives u c → Fits u (feed_from k c w vs)
feed-fits u k c w [] f = tt
feed-fits u k c w (v ∷ vs) f = fits-within u k (send c w (constant v)) (feed_from (suc k) c w vs) f (feed-fits u (suc k) c w vs f)

pub syncs-fit : (u : Known) (k c n : ℕ) → Acts u c × Gives u c → Fits u (syncs_from k c n)
syncs-fit u k c zero f = tt
syncs-fit u k c (suc n) f = fits-within u k (sync c) (syncs_from (suc k) c n) f (syncs-fit u (suc k) c n f)

-- ---- one more in a list of a table
put-more : (t : List (List ℕ)) (n k : ℕ) → n < length t → In k (list_at (slice_set t n (list_at t n ++ k ∷ [])) n)
put-more [] n k less = absurd (omega arith)
put-more (x ∷ t) zero k less = in-right k x (k ∷ []) (inl refl)
put-more (x ∷ t) (suc n) k less = put-more t n k (omega arith)

put-still : (t : List (List ℕ)) (n k : ℕ) → Grows t (slice_set t n (list_at t n ++ k ∷ []))
put-still [] n k c i there = there
put-still (x ∷ t) zero k zero i there = in-left i x (k ∷ []) there
put-still (x ∷ t) zero k (suc c) i there = there
put-still (x ∷ t) (suc n) k zero i there = there
put-still (x ∷ t) (suc n) k (suc c) i there = put-still t n k c i there

-- what stands in a list
pub get-list : (t : List (List ℕ)) (n : ℕ) (row : List ℕ) → n < length t → row ≡ get_or t n row → list_at t n ≡ row
get-list [] n row less is = absurd (omega arith)
get-list (x ∷ t) zero row less is = sym is
get-list (x ∷ t) (suc n) row less is = get-list t n row (omega arith) is

grown : (t all : List (List ℕ)) (n k : ℕ) → Grows (slice_set t n (list_at t n ++ k ∷ [])) all → Grows t all
grown t all n k more c i there = more c i (put-still t n k c i there)

-- one more acts on a channel
pub act-added : (k channel : ℕ) (a b : Used) → channel < length a.acting.items → b.giving ≡ a.giving
    → b.acting.items ≡ slice_set a.acting.items channel (list_at a.acting.items channel ++ k ∷ []) → Adds k a (λ u. Acts u channel) b
act-added k channel a b less same more u is held =
    let table = a.acting.items in
    let acts : Grows (slice_set table channel (list_at table channel ++ k ∷ [])) u.acting =
    subst (λ (t : List (List ℕ)). Grows t u.acting) more held.0 in (
      (grown table u.acting channel k acts, subst (λ (t : List (List ℕ)). Grows t u.giving) (ap (λ g. g.items) same) held.1),
      subst (λ (n : ℕ). In n (list_at u.acting channel)) (sym is) (acts channel k (put-more table channel k less)),
    )

-- a branch gives on one more
pub gift-added : (k channel : ℕ) (a b : Used) → k < length a.giving.items → b.acting ≡ a.acting
    → b.giving.items ≡ slice_set a.giving.items k (list_at a.giving.items k ++ channel ∷ []) → Adds k a (λ u. Gives u channel) b
gift-added k channel a b less same more u is held =
    let table = a.giving.items in
    let gives : Grows (slice_set table k (list_at table k ++ channel ∷ [])) u.giving =
    subst (λ (t : List (List ℕ)). Grows t u.giving) more held.1 in (
      (subst (λ (t : List (List ℕ)). Grows t u.acting) (ap (λ g. g.items) same) held.0, grown table u.giving k channel gives),
      subst (λ (n : ℕ). In channel (list_at u.giving n)) (sym is) (gives k channel (put-more table k channel less)),
    )

-- ---- branches one after another
pub parts-none : (a : Ends) → AddsParts a [] a
parts-none a = record { count = omega arith; fits = λ acting giving e. (e, tt) }

pub parts-both : (a b c : Ends) (rs qs : List Residual) → AddsParts a rs b → AddsParts b qs c → AddsParts a (rs ++ qs) c
parts-both a b c rs qs one other = record {
  count =
      let size = length-append rs qs in
      let first = one.count in
      let second = other.count in
      omega arith;
  fits = λ acting giving e.
      let last = other.fits acting giving e in
      let first = one.fits acting giving last.0 in (
        first.0,
        each-both (known_at acting giving) a.count rs qs first.1
            (subst (λ (n : ℕ). FitEach (known_at acting giving) n qs) one.count last.1),
      );
}

pub parts-more : (a b c : Ends) (r : Residual) (rs : List Residual) → AddsParts a (r ∷ []) b → AddsParts b rs c → AddsParts a (r ∷ rs) c
parts-more a b c r rs one other = parts-both a b c (r ∷ []) rs one other

-- a branch more
pub part-added : (a b : Ends) (k : ℕ) (r : Residual) → k ≡ a.count → b.count ≡ k + 1 → Adds k a.used (λ u. Fits u r) b.used
    → AddsParts a (r ∷ []) b
part-added a b k r number more adds = record {
  count = omega arith;
  fits = λ acting giving held.
      let before = adds (known_at acting giving a.count) (sym number) held in (before.0, (before.1, tt));
}

-- those of a system
pub all-fit : (system : System) (a b c : Ends) → a.count ≡ 0 → AddsParts a (parts_of system.main (parallel_of system.main)) b
    → AddsParts b (map branch_of system.environment) c
    → FitEach (known_at c.used.acting.items c.used.giving.items) 0 (parts system)
all-fit system a b c none body ports =
    let all = parts-both a b c (parts_of system.main (parallel_of system.main)) (map branch_of system.environment) body ports in
    subst (λ (n : ℕ). FitEach (known_at c.used.acting.items c.used.giving.items) n (parts system)) none
    (all.fits c.used.acting.items c.used.giving.items ((λ k x there. there), (λ k x there. there))).1

-- a loop over branches
pub parts-on : {X : Type 0} (f : X → Residual) (xs : List X) (i : ℕ) (x : X) (a b : Ends) → drop i xs ≡ x ∷ drop (i + 1) xs
    → AddsParts a (f x ∷ []) b → (c : Ends) → AddsParts b (map f (drop (i + 1) xs)) c → AddsParts a (map f (drop i xs)) c
parts-on f xs i x a b at one c rest =
    subst (λ ys. AddsParts a (map f ys) c) (sym at) (parts-more a b c (f x) (map f (drop (i + 1) xs)) one rest)

-- one of those that are left, where it is not the first of them
pub left-over : (x y : ℕ) (xs : List ℕ) (i : ℕ) → drop i xs ≡ y ∷ drop (i + 1) xs → (x ≡ y → ⊥) → In x (drop i xs) → In x (drop (i + 1) xs)
left-over x y xs i at not among = elim (subst (λ (ys : List ℕ). In x ys) at among) [
  | inl e ↦ absurd (not e)
  | inr more ↦ more
]

pub parts-done : {X : Type 0} (f : X → Residual) (xs : List X) (i : ℕ) (a : Ends) → length xs ≤ i → AddsParts a (map f (drop i xs)) a
parts-done f xs i a past = subst (λ ys. AddsParts a (map f ys) a) (sym (drop_all i xs past)) (parts-none a)
