-- Branches beside one another, each with its number: what a move leaves of them.
use Rattle.std.proofs.Common.{◌≡◌, inl, inr, ℕ, suc, ◌+◌, ◌<◌, ◌≤◌, List, [], ◌∷◌, Some, length, refl, sym, subst, arith}
use Rattle.std.specs.Prelude.{slice_get}
use Rattle.address.specs.declared.Entry.TheVariants.{Branch}
use Rattle.system.specs.Residual.{Residual, done, beside, along}
use Rattle.system.specs.Translation.{in_parallel}
use Rattle.runs.specs.Moves.{Place, Move, Local}

-- each of the branches has a number below n, and Q holds of the number and of what it is to do
abbrev pub Shape : (ℕ → Residual → Type 0) → ℕ → Residual → Type 0
Shape Q n done = Unit {0}
Shape Q n (beside k child rest) = (k < n) × Q k child × Shape Q n rest
Shape Q n _ = ⊥

-- the place lies in a branch, which makes the move there
pub record InPart (Q : ℕ → Residual → Type 0) (n : ℕ) (a : Place) (m : Move) : Type 0 where
  pub number : ℕ
  pub child : Residual
  pub inside : Place
  pub after : Residual
  pub at : a ≡ Branch number ∷ inside
  pub few : number < n
  pub holds : Q number child
  pub moves : Local child inside m after

-- Q stays where the branch makes a move of which C holds
abbrev pub Keeps : (ℕ → Residual → Type 0) → (ℕ → Place → Move → Type 0) → Type 0
Keeps Q C = (k : ℕ) (c : Residual) (a : Place) (m : Move) (t : Residual) → Q k c → Local c a m t → C k a m → Q k t

-- C holds of the move in its branch
abbrev pub Within : (ℕ → Place → Move → Type 0) → Place → Move → Type 0
Within C a m = (k : ℕ) (b : Place) → a ≡ Branch k ∷ b → C k b m

-- one branch more, or none where it is done
along-shape : (Q : ℕ → Residual → Type 0) (n k : ℕ) (child rest : Residual) → k < n → Q k child → Shape Q n rest → Shape Q n (along k child rest)
along-shape Q n k done rest few q s = s
along-shape Q n k child rest few q s = (few, q, s)

-- a parallel, whose first branch has the number m
pub parallel-shape : (Q : ℕ → Residual → Type 0) (n m : ℕ) (rs : List Residual) → ((i : ℕ) (r : Residual) → slice_get rs i ≡ Some r → Q (m + i) r) →
    m + length rs ≤ n → Shape Q n (in_parallel m rs)
parallel-shape Q n m [] all few = tt
parallel-shape Q n m (r ∷ rs) all few =
    let here : m + 0 ≡ m = omega arith in
    along-shape Q n m r (in_parallel (suc m) rs) (omega arith) (subst (λ (k : ℕ). Q k r) here (all 0 r refl))
    (parallel-shape Q n (suc m) rs (λ i s at. let next : m + suc i ≡ suc m + i = omega arith in subst (λ (k : ℕ). Q k s) next (all (suc i) s at)) (omega arith))

-- a branch more before a parallel
pub shape-along : (Q : ℕ → Residual → Type 0) (n k : ℕ) (child rest : Residual) → k < n → Q k child → Shape Q n rest → Shape Q n (along k child rest)
shape-along Q n k child rest few q s = along-shape Q n k child rest few q s

-- a move lies in one of the branches
pub local-part : (Q : ℕ → Residual → Type 0) (n : ℕ) (r : Residual) (a : Place) (m : Move) (q : Residual) → Shape Q n r → Local r a m q → InPart Q n a m
local-part Q n done a m q s l = absurd l
local-part Q n (beside k child rest) a m q s (inl (b, t, at, move, is)) =
    record { number = k; child = child; inside = b; after = t; at = at; few = s.0; holds = s.1; moves = move }
local-part Q n (beside k child rest) a m q s (inr (t, move, is)) = local-part Q n rest a m t s.2 move
local-part Q n _ a m q s l = absurd s

-- and leaves branches
pub local-shape : (Q : ℕ → Residual → Type 0) (C : ℕ → Place → Move → Type 0) → Keeps Q C → (n : ℕ) (r : Residual) (a : Place) (m : Move) (q : Residual) →
    Shape Q n r → Local r a m q → Within C a m → Shape Q n q
local-shape Q C keeps n done a m q s l w = absurd l
local-shape Q C keeps n (beside k child rest) a m q s (inl (b, t, at, move, is)) w =
    subst (λ (x : Residual). Shape Q n x) (sym is) (along-shape Q n k t rest s.0 (keeps k child b m t s.1 move (w k b at)) s.2)
local-shape Q C keeps n (beside k child rest) a m q s (inr (t, move, is)) w =
    subst (λ (x : Residual). Shape Q n x) (sym is) (along-shape Q n k child t s.0 s.1 (local-shape Q C keeps n rest a m t s.2 move w))
local-shape Q C keeps n _ a m q s l w = absurd s
