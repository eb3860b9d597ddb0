-- What a residual is to do still fits behind a move, and so does the move.
use Rattle.std.proofs.Common.{◌≡◌, inl, inr, ℕ, zero, suc, ◌+◌, ◌*◌, List, [], ◌∷◌, Option, Some, None, refl, sym, subst}
use Rattle.std.specs.Prelude.{slice_get}
use Rattle.syntax.specs.Lists.{Every}
use Rattle.value.specs.Word.{Word}
use Rattle.system.specs.Residual.{Residual, done, halted, inside, beside, assign, send, receive, sync, held, loop, while, test, choose, closing, drain, Arms, no_arms, arm, within, along, arm_at, opened, put_residual, put_arms}
use Rattle.runs.specs.Moves.{Place, Move, Local}
use Rattle.idle_branches.specs.internal.Known.{Known, Acts, Fits, FitsArms, FitsMove}

module _ (u : Known) where
  -- a finished child is erased
  pub fits-within : (i : ℕ) (child next : Residual) → Fits u child → Fits u next → Fits u (within i child next)
  fits-within i done next f g = g
  fits-within i _ next f g = (f, g)

  pub fits-along : (k : ℕ) (child rest : Residual) → Fits u child → Fits u rest → Fits u (along k child rest)
  fits-along k done rest f g = g
  fits-along k _ rest f g = (f, g)

  -- an arm
  pub fits-arm : (arms : Arms) (k : ℕ) → FitsArms u arms → Fits u (arm_at arms k)
  fits-arm no_arms k f = tt
  fits-arm (arm r rest) zero f = f.0
  fits-arm (arm r rest) (suc k) f = fits-arm rest k f.1

  -- a received value changes no channel
  mutual
    pub fits-put : (c : ℕ) (v : Word) (r : Residual) → Fits u r → Fits u (put_residual c v r)
    fits-put c v done f = f
    fits-put c v halted f = f
    fits-put c v (inside i child next) f = (fits-put c v child f.0, fits-put c v next f.1)
    fits-put c v (beside k child rest) f = (fits-put c v child f.0, fits-put c v rest f.1)
    fits-put c v (assign x w e) f = f
    fits-put c v (send d w e) f = f
    fits-put c v (receive d x) f = f
    fits-put c v (sync d) f = f
    fits-put c v (held d) f = f
    fits-put c v (loop k body) f = fits-put c v body f
    fits-put c v (while k e body) f = fits-put c v body f
    fits-put c v (test d arms) f = fits-put-arms c v arms f
    fits-put c v (choose channels arms) f = (f.0, fits-put-arms c v arms f.1)
    fits-put c v (closing d) f = f
    fits-put c v (drain d k) f = f

    fits-put-arms : (c : ℕ) (v : Word) (arms : Arms) → FitsArms u arms → FitsArms u (put_arms c v arms)
    fits-put-arms c v no_arms f = f
    fits-put-arms c v (arm r rest) f = (fits-put c v r f.0, fits-put-arms c v rest f.1)

  fits-opened : (c : ℕ) (v : Option Word) (r : Residual) → Fits u r → Fits u (opened c v r)
  fits-opened c None r f = f
  fits-opened c (Some v) r f = fits-put c v r f

  -- one of the channels of a choice
  acts-at : (channels : List ℕ) (k c : ℕ) → slice_get channels k ≡ Some c → Every (Acts u) channels → Acts u c
  acts-at [] k c at f = cc
  acts-at (d ∷ ds) zero c at f = let same : d ≡ c = cc in subst (λ (e : ℕ). Acts u e) same f.0
  acts-at (d ∷ ds) (suc k) c at f = acts-at ds k c at f.1

  -- what is left, and the move
  pub record Moved (m : Move) (q : Residual) : Type 0 where
    pub left : Fits u q
    pub made : FitsMove u m

  by-equal : (m n : Move) (q t : Residual) → m ≡ n → q ≡ t → FitsMove u n → Fits u t → Moved m q
  by-equal m n q t e g f h = record {
    left = subst (λ (r : Residual). Fits u r) (sym g) h;
    made = subst (λ (o : Move). FitsMove u o) (sym e) f;
  }

  left-equal : (m : Move) (q t : Residual) → q ≡ t → FitsMove u m → Fits u t → Moved m q
  left-equal m q t g f h = by-equal m m q t refl g f h

  pub moved : (r : Residual) (a : Place) (m : Move) (q : Residual) → Fits u r → Local r a m q → Moved m q
  moved done a m q f h = absurd h
  moved halted a m q f h = absurd h
  moved (inside i child next) a m q f (b, t, _, h, e) =
      let below = moved child b m t f.0 h in
      left-equal m q (within i t next) e below.made (fits-within i t next below.left f.1)
  moved (beside k child rest) a m q f (inl (b, t, _, h, e)) =
      let below = moved child b m t f.0 h in
      left-equal m q (along k t rest) e below.made (fits-along k t rest below.left f.1)
  moved (beside k child rest) a m q f (inr (t, h, e)) =
      let below = moved rest a m t f.1 h in
      left-equal m q (along k child t) e below.made (fits-along k child t f.0 below.left)
  moved (assign x w e) a m q f (_, is, g) = by-equal m _ q _ is g tt tt
  moved (send c w e) a m q f (_, inl (is, g)) = by-equal m _ q _ is g f tt
  moved (send c w e) a m q f (_, inr (is, g)) = by-equal m _ q _ is g f f
  moved (receive c x) a m q f (_, is, g) = by-equal m _ q _ is g f tt
  moved (sync c) a m q f (_, inl (is, g)) = by-equal m _ q _ is g f tt
  moved (sync c) a m q f (_, inr (is, g)) = by-equal m _ q _ is g f f.1
  moved (held c) a m q f (_, is, g) = by-equal m _ q _ is g f tt
  moved (loop k body) a m q f (_, is, g) =
      by-equal m _ q _ is g tt (fits-within (2 * k + 1) body (loop (k + 1) body) f f)
  moved (while k e body) a m q f (_, inl (is, g)) =
      by-equal m _ q _ is g tt (fits-within (2 * k + 1) body (while (k + 1) e body) f f)
  moved (while k e body) a m q f (_, inr (is, g)) = by-equal m _ q _ is g tt tt
  moved (test d arms) a m q f (_, inl (k, is, g)) =
      by-equal m _ q _ is g tt (fits-within 1 (arm_at arms k) done (fits-arm arms k f) tt)
  moved (test d arms) a m q f (_, inr (is, g)) = by-equal m _ q _ is g tt tt
  moved (choose channels arms) a m q f (_, c, k, v, at, is, g) =
      let one = acts-at channels k c at f.0 in
      by-equal m _ q _ is g one
      (fits-within 1 (opened c v (arm_at arms k)) (closing c) (fits-opened c v (arm_at arms k) (fits-arm arms k f.1)) one)
  moved (closing c) a m q f (_, is, g) = by-equal m _ q _ is g f tt
  moved (drain c k) a m q f (_, is, g) = by-equal m _ q _ is g f f
