-- Where a well formed residual offers its moves, and that every move keeps it well formed.
use Rattle.std.proofs.Common.{◌≡◌, inl, inr, ℕ, ◌+◌, ◌*◌, ◌≤◌, [], ◌∷◌, arith}
use Rattle.runs.specs.Moves.{Place, Move, Local}
use Rattle.address.specs.declared.Entry.TheVariants.{Ordered, Branch}
use Rattle.system.specs.Residual.{Residual, done, halted, inside, beside, assign, send, receive, sync, held, loop, while, test, choose, closing, drain, arm_at, opened}
use Rattle.runs.proofs.public.WellFormed.{StartsFrom, BranchesFrom, WellFormed, formed-within, branches-along, formed-along, formed-opened, formed-arm_at}

-- a residual that starts from n moves at an ordered place from n on
pub record StartsAt (n : ℕ) (a : Place) : Type 0 where
  pub number : ℕ
  pub rest : Place
  pub is : a ≡ Ordered number ∷ rest
  pub from : n ≤ number

-- a residual that starts from n moves at such a place
pub starts-place : (n : ℕ) (r : Residual) (a : Place) (m : Move) (q : Residual) → StartsFrom n r → Local r a m q → StartsAt n a
starts-place n done a m q s h = absurd h
starts-place n (inside i child next) a m q s h = record { number = i; rest = h.0; is = h.2; from = s }
starts-place n (loop k body) a m q s h = record { number = 2 * k; rest = []; is = h.0; from = s }
starts-place n (while k e body) a m q s h = record { number = 2 * k; rest = []; is = h.0; from = s }
starts-place n (held c) a m q s h = record { number = 1; rest = []; is = h.0; from = s }
starts-place n (closing c) a m q s h = record { number = 2; rest = []; is = h.0; from = s }
starts-place n _ a m q s h = absurd s

-- a residual whose branches go from n on moves in a branch from n on
pub record BranchesAt (n : ℕ) (a : Place) : Type 0 where
  pub number : ℕ
  pub rest : Place
  pub is : a ≡ Branch number ∷ rest
  pub from : n ≤ number

-- a branch from m on is one from a lesser number on
pub branches-weaker : (n m : ℕ) (a : Place) → n ≤ m → BranchesAt m a → BranchesAt n a
branches-weaker n m a h b = record { number = b.number; rest = b.rest; is = b.is; from = omega (arith, b.from) }

-- a residual whose branches go from n on moves in such a branch
pub branches-place : (n : ℕ) (r : Residual) (a : Place) (m : Move) (q : Residual) → BranchesFrom n r → WellFormed r → Local r a m q → BranchesAt n a
branches-place n done a m q s w h = absurd h
branches-place n (beside k child rest) a m q s w h =
    elim h [
      | inl u ↦ record { number = k; rest = u.0; is = u.2; from = s }
      | inr u ↦ branches-weaker n (k + 1) a (omega arith) (branches-place (k + 1) rest a m u.0 w.2 w.1 u.1)
    ]
branches-place n _ a m q s w h = absurd s

-- a move leaves no lower branch
pub branches-kept : (n : ℕ) (r : Residual) (a : Place) (m : Move) (q : Residual) → BranchesFrom n r → WellFormed r → Local r a m q → BranchesFrom n q
branches-kept n done a m q s w h = absurd h
branches-kept n (beside k child rest) a m q s w h =
    elim h [
      | inl u ↦ rw u.4 (branches-along n k u.1 rest s w.2)
      | inr u ↦ rw u.2 (branches-along n k child u.0 s (branches-kept (k + 1) rest a m u.0 w.2 w.1 u.1))
    ]
branches-kept n _ a m q s w h = absurd s

-- a move leaves a well formed residual
pub formed : (r : Residual) (a : Place) (m : Move) (q : Residual) → WellFormed r → Local r a m q → WellFormed q
formed done a m q w h = absurd h
formed halted a m q w h = absurd h
formed (inside i child next) a m q w h = rw h.4 (formed-within i h.1 next (formed child h.0 m h.1 w.0 h.3) w.1 w.2)
formed (beside k child rest) a m q w h =
    elim h [
      | inl u ↦ rw u.4 (formed-along k u.1 rest (formed child u.0 m u.1 w.0 u.3) w.1 w.2)
      | inr u ↦ rw u.2 (formed-along k child u.0 w.0 (formed rest a m u.0 w.1 u.1) (branches-kept (k + 1) rest a m u.0 w.2 w.1 u.1))
    ]
formed (assign x n e) a m q w h = rw h.2 tt
formed (send c n e) a m q w h = elim h.1 [ inl u ↦ rw u.1 tt | inr u ↦ rw u.1 tt ]
formed (receive c x) a m q w h = rw h.2 tt
formed (sync c) a m q w h = elim h.1 [ inl u ↦ rw u.1 tt | inr u ↦ rw u.1 tt ]
formed (held c) a m q w h = rw h.2 tt
formed (loop k body) a m q w h = rw h.2 (formed-within (2 * k + 1) body (loop (k + 1) body) w w (omega arith))
formed (while k e body) a m q w h =
    elim h.1 [
      | inl u ↦ rw u.1 (formed-within (2 * k + 1) body (while (k + 1) e body) w w (omega arith))
      | inr u ↦ rw u.1 tt
    ]
formed (test d arms) a m q w h =
    elim h.1 [ inl u ↦ rw u.2 (formed-within 1 (arm_at arms u.0) done (formed-arm_at arms u.0 w) tt tt) | inr u ↦ rw u.1 tt ]
formed (choose channels arms) a m q w h =
    rw h.6 (formed-within 1 (opened h.1 h.3 (arm_at arms h.2)) (closing h.1) (formed-opened h.1 h.3 (arm_at arms h.2) (formed-arm_at arms h.2 w)) tt (omega arith))
formed (closing c) a m q w h = rw h.2 tt
formed (drain c k) a m q w h = rw h.2 tt
