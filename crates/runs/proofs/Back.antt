-- Going back: a part of the live events on which none of the others had a kept follower.
use Rattle.std.proofs.Common.{◌≡◌, inl, inr, ℕ, suc, ◌<◌, ◌≤◌, [], ◌∷◌, ◌++◌, length, refl, ap, subst, arith}
use Rattle.syntax.specs.Lists.{In, Every}
use Rattle.runs.specs.Steps.{State, Run}
use Rattle.runs.specs.Dependence.{Directly, ended, stays, leaves}
use Rattle.runs.specs.Live.{Live, events, Rising, LiveAt, WithoutTickets}
use Rattle.runs.specs.declared.event.Event.{Event}
use Rattle.runs.proofs.public.WellFormed.{WellFormed}
use Rattle.runs.proofs.Swap.{step-formed}
use Rattle.runs.proofs.public.Orders.{past}
use Rattle.runs.proofs.public.Lists.{every-in, every-of}
use Rattle.runs.proofs.public.Tickets.{rising-lower, rising-in}

-- no event of k depends directly on e
abbrev pub Free : Event → Live → Type 0
Free e k = Every (λ (y : ℕ × Event). Directly e y.1 → ⊥) k

-- k is a part of l, and no event of k depends directly on an earlier event of l that is not in k
pub data Back : Live → Live → Type 0 where
  nothing : Back [] []
  keeps : {x : ℕ × Event} {l k : Live} → Back l k → Back (x ∷ l) (x ∷ k)
  drops : {x : ℕ × Event} {l k : Live} → Free x.1 k → Back l k → Back (x ∷ l) k

-- the entries that are not kept
abbrev pub dropped : {l k : Live} → Back l k → Live
dropped nothing = []
dropped (keeps b) = dropped b
dropped (drops {x = x} free b) = x ∷ dropped b

pub back-all : (l : Live) → Back l l
back-all [] = nothing
back-all (x ∷ l) = keeps (back-all l)

pub back-in : (l k : Live) (x : ℕ × Event) → Back l k → In x k → In x l
back-in l k x nothing i = i
back-in l k x (keeps {x = y} {l = l'} {k = k'} b) i = elim i [ inl u ↦ inl u | inr u ↦ inr (back-in l' k' x b u) ]
back-in l k x (drops {x = y} {l = l'} {k = k'} free b) i = inr (back-in l' k x b i)

free-part : (e : Event) (l k : Live) → Free e l → Back l k → Free e k
free-part e l k free b = every-of (λ (y : ℕ × Event). Directly e y.1 → ⊥) k
    (λ x i. every-in (λ (y : ℕ × Event). Directly e y.1 → ⊥) l x free (back-in l k x b i))

back-kept : (x : ℕ × Event) (l k m : Live) → ((n : Live) → Back k n → Back l n) → Back (x ∷ k) m → Back (x ∷ l) m
back-kept x l k m on (keeps {k = m'} c) = keeps (on m' c)
back-kept x l k m on (drops free c) = drops free (on m c)

-- a part of a part
pub back-on : (l k m : Live) → Back l k → Back k m → Back l m
back-on l k m nothing c = c
back-on l k m (keeps {x = x} {l = l'} {k = k'} b) c = back-kept x l' k' m (λ n d. back-on l' k' n b d) c
back-on l k m (drops {x = x} {l = l'} free b) c = drops (free-part x.1 k m free c) (back-on l' k m b c)

-- a part of two lists joined is two parts joined
pub record BackParts (l m k : Live) : Type 0 where
  pub first : Live
  pub second : Live
  pub is : k ≡ first ++ second
  pub of_first : Back l first
  pub of_second : Back m second

free-left : (e : Event) (l m : Live) → Free e (l ++ m) → Free e l
free-left e [] m free = tt
free-left e (x ∷ l) m free = (free.0, free-left e l m free.1)

parts-after : (x : ℕ × Event) (l m k : Live) → ((n : Live) → Back (l ++ m) n → BackParts l m n) → Back (x ∷ (l ++ m)) k → BackParts (x ∷ l) m k
parts-after x l m k parts (keeps {k = k'} b) =
    let rest = parts k' b in
    record { first = x ∷ rest.first; second = rest.second; is = ap (λ (z : Live). x ∷ z) rest.is; of_first = keeps rest.of_first; of_second = rest.of_second }
parts-after x l m k parts (drops free b) =
    let rest = parts k b in
    record {
      first = rest.first;
      second = rest.second;
      is = rest.is;
      of_first = drops (free-left x.1 rest.first rest.second (subst (λ (z : Live). Free x.1 z) rest.is free)) rest.of_first;
      of_second = rest.of_second;
    }

pub back-parts : (l m k : Live) → Back (l ++ m) k → BackParts l m k
back-parts [] m k b = record { first = []; second = k; is = refl; of_first = nothing; of_second = b }
back-parts (x ∷ l) m k b = parts-after x l m k (λ n c. back-parts l m n c) b

-- tickets of a part rise within the same bounds
pub back-rising : (low next : ℕ) (l k : Live) → Back l k → Rising low l next → Rising low k next
back-rising low next l k nothing r = r
back-rising low next l k (keeps {x = x} {l = l'} {k = k'} b) r = (r.0, back-rising (suc x.0) next l' k' b r.1)
back-rising low next l k (drops {x = x} {l = l'} free b) r =
    let first : low ≤ x.0 = r.0 in
    rising-lower low (suc x.0) next k (omega arith) (back-rising (suc x.0) next l' k b r.1)

pub back-length : (l k : Live) → Back l k → length k ≤ length l
back-length l k nothing = omega arith
back-length l k (keeps {l = l'} {k = k'} b) = let rest = back-length l' k' b in omega arith
back-length l k (drops {l = l'} free b) = let rest = back-length l' k b in omega arith

free-events : (e : Event) (k : Live) → Free e k → Every (λ f. Directly e f → ⊥) (events k)
free-events e [] free = tt
free-events e (x ∷ k) free = (free.0, free-events e k free.1)

-- what is kept runs
pub back-runs : (S T : State) (l k : Live) → WellFormed S.residual → Run S (events l) T → Back l k → (U : State) × Run S (events k) U
back-runs S T l k w r nothing = (S, refl)
back-runs S T l k w r (keeps {x = x} {l = l'} {k = k'} b) =
    let rest = back-runs r.0 T l' k' (step-formed S r.0 x.1 w r.1) r.2 b in
    (rest.0, (r.0, r.1, rest.1))
back-runs S T l k w r (drops {x = x} {l = l'} free b) =
    let rest = back-runs r.0 T l' k (step-formed S r.0 x.1 w r.1) r.2 b in
    let moved = past S r.0 rest.0 x.1 (events k) w r.1 rest.1 (free-events x.1 k free) in
    (moved.before, moved.run)

-- with an event of whose ticket D holds, it holds of the tickets of the later events of L that depend directly on it
abbrev pub ClosedIn : Live → (ℕ → Type 0) → Type 0
ClosedIn L D = (t u : ℕ) (e f : Event) → LiveAt L t e → LiveAt L u f → t < u → Directly e f → D t → D u

-- what is left after a closed set is taken out
pub without-back : (L : Live) (D : ℕ → Type 0) (low next : ℕ) (l k : Live) → ((x : ℕ × Event) → In x l → In x L) → Rising low l next →
    ClosedIn L D → WithoutTickets D l k → Back l k
without-back L D low next l k inside r c ended = nothing
without-back L D low next l k inside r c (stays {x = (t, e)} {l = l'} {k = k'} out w) =
    keeps (without-back L D (suc t) next l' k' (λ x i. inside x (inr i)) r.1 c w)
without-back L D low next l k inside r c (leaves {x = (t, e)} {l = l'} gone w) =
    drops (none l' k (λ x i. inside x (inr i)) (λ u f i. (rising-in (suc t) next l' u f r.1 i).0) w)
    (without-back L D (suc t) next l' k (λ x i. inside x (inr i)) r.1 c w)
  where
    none : (m k : Live) → ((x : ℕ × Event) → In x m → In x L) → ((u : ℕ) (f : Event) → LiveAt m u f → t < u) → WithoutTickets D m k → Free e k
    none m k within above ended = tt
    none m k within above (stays {x = (u, f)} {l = m'} {k = k'} out w) = (
      (λ d. out (c t u e f (inside (t, e) (inl refl)) (within (u, f) (inl refl)) (above u f (inl refl)) d gone)),
      none m' k' (λ x i. within x (inr i)) (λ v g i. above v g (inr i)) w,
    )
    none m k within above (leaves {l = m'} away w) = none m' k (λ x i. within x (inr i)) (λ v g i. above v g (inr i)) w
