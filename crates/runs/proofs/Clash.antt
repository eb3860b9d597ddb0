-- A move now and a possible move at a place apart add up in the amount.
use Rattle.std.proofs.Common.{◌≡◌, ℕ, ◌*◌, ◌≤◌, max, List, [], ◌∷◌, Some, None, inl, inr, ⊎_elim, sym, refl, subst, arith, append-nil, le_refl, le_trans}
use Rattle.std.proofs.Math.Nat.{le-max_left}
use Rattle.address.specs.declared.Entry.TheVariants.{Ordered, Branch}
use Rattle.runs.specs.Moves.{Place, Move, assigns, tests, turns, sends, receives, syncs, opens, releases, closes, Local}
use Rattle.address.specs.Places.{Apart}
use Rattle.system.specs.Expression.{variables, decision_variables}
use Rattle.system.specs.Residual.{Residual, done, halted, inside, beside, assign, send, receive, sync, held, loop, while, test, choose, closing, drain}
use Rattle.runs.specs.Events.{Located}
use Rattle.sharing_rule.specs.Measure.{Measure, amount, most}
use Rattle.runs.proofs.public.WellFormed.{WellFormed}
use Rattle.runs.proofs.Adding.{AddsUp}
use Rattle.runs.proofs.Most.{most_at}
use Rattle.runs.proofs.Amounts.{kept}
use Rattle.runs.proofs.Later.{Later, later_inside, later_beside, alone, after_child}

-- what a move counts
abbrev pub count : Measure → Move → ℕ
count M (assigns x w e) = max (M.writes x) (most M.reads (variables e))
count M (tests d k) = most M.reads (decision_variables d)
count M turns = 0
count M (sends c w e h) = max (M.sends c) (most M.reads (variables e))
count M (receives c None) = M.receives c
count M (receives c (Some x)) = max (M.receives c) (M.writes x)
count M (syncs c h) = M.syncs c
count M (opens c k v) = M.opens c
count M (releases c) = M.holds c
count M (closes c) = M.closes c

-- a bound for a move's count, from what move it is
of_move : (M : Measure) (m n : Move) (k : ℕ) → m ≡ n → count M n ≤ k → count M m ≤ k
of_move M m n k e h = subst (λ x. count M x ≤ k) (sym e) h

-- a move counts at most the amount
pub counted : (M : Measure) → AddsUp M.together → (r : Residual) (a : Place) (m : Move) (q : Residual) → Local r a m q → count M m ≤ amount M r
counted M A done a m q h = elim h [ ]
counted M A halted a m q h = elim h [ ]
counted M A (inside i child next) a m q (b, t, _, h, _) = le_trans (counted M A child b m t h) (le-max_left _ _)
counted M A (beside k child rest) a m q (inl (b, t, _, h, _)) = le_trans (counted M A child b m t h) (A.left _ _)
counted M A (beside k child rest) a m q (inr (t, h, _)) = le_trans (counted M A rest a m t h) (A.right _ _)
counted M A (assign x w e) a m q (_, f, _) = of_move M m _ _ f (le_refl _)
counted M A (send c w e) a m q (_, inl (f, _)) = of_move M m _ _ f (omega arith)
counted M A (send c w e) a m q (_, inr (f, _)) = of_move M m _ _ f (omega arith)
counted M A (receive c x) a m q (_, f, _) = of_move M m _ _ f (le_refl _)
counted M A (sync c) a m q (_, inl (f, _)) = of_move M m _ _ f (le-max_left _ _)
counted M A (sync c) a m q (_, inr (f, _)) = of_move M m _ _ f (le-max_left _ _)
counted M A (held c) a m q (_, f, _) = of_move M m _ _ f (le_refl _)
counted M A (loop k body) a m q (_, f, _) = of_move M m _ _ f (omega arith)
counted M A (while k e body) a m q (_, inl (f, _)) = of_move M m _ _ f (rw (append-nil (variables e)) (le-max_left _ _))
counted M A (while k e body) a m q (_, inr (f, _)) = of_move M m _ _ f (rw (append-nil (variables e)) (le-max_left _ _))
counted M A (test d arms) a m q (_, inl (k, f, _)) = of_move M m _ _ f (le-max_left _ _)
counted M A (test d arms) a m q (_, inr (f, _)) = of_move M m _ _ f (le-max_left _ _)
counted M A (choose channels arms) a m q (_, c, k, v, g, f, _) =
    of_move M m _ _ f (let h = most_at M.opens c channels k g in omega arith)
counted M A (closing c) a m q (_, f, _) = of_move M m _ _ f (le_refl _)
counted M A (drain c k) a m q (_, f, _) = of_move M m _ _ f (le_refl _)

-- a later move counts at most the amount
pub later_counted : (M : Measure) → AddsUp M.together → (r : Residual) (ls : List Located) (b : Place) (n : Move) → Later r ls b n → count M n ≤ amount M r
later_counted M A r [] b n (q, h) = counted M A r b n q h
later_counted M A r (l ∷ ls) b n (t, h, k) = le_trans (later_counted M A t ls b n k) (kept M A r l.place l.move t h)

-- places in one child
pub under_ordered : (i : ℕ) (a b c d : Place) → a ≡ Ordered i ∷ c → b ≡ Ordered i ∷ d → Apart a b → Apart c d
under_ordered i a b c d e f h = (subst (Apart (Ordered i ∷ c)) f (subst (λ x. Apart x b) e h)).1

-- places in one branch
pub under_branch : (k : ℕ) (a b c d : Place) → a ≡ Branch k ∷ c → b ≡ Branch k ∷ d → Apart a b → Apart c d
under_branch k a b c d e f h = go (subst (Apart (Branch k ∷ c)) f (subst (λ x. Apart x b) e h))
  where
    go : Apart (Branch k ∷ c) (Branch k ∷ d) → Apart c d
    go (inl other) = absurd (other refl)
    go (inr same) = same.1

-- a move at a place of its own has none apart from it
pub lone : (i : ℕ) (a b : Place) (P : Type 0) → a ≡ Ordered i ∷ [] → Apart a b → P
lone i a b P e h = absurd (alone i b (subst (λ x. Apart x b) e h))

-- nor has a move at the place of the command
pub bare : (a b : Place) (P : Type 0) → a ≡ [] → Apart a b → P
bare a b P e h = absurd (subst (λ x. Apart x b) e h)

-- a move now and a possible move at a place apart add up
pub clash : (M : Measure) → AddsUp M.together → (r : Residual) (a : Place) (m : Move) (t : Residual) (ls : List Located) (b : Place) (n : Move) →
    WellFormed r → Local r a m t → Later r ls b n → Apart a b → M.together (count M m) (count M n) ≤ amount M r
clash M A done a m t ls b n w h k p = elim h [ ]
clash M A halted a m t ls b n w h k p = elim h [ ]
clash M A (inside i child next) a m t ls b n w (c, s, e, h, _) k p =
    ⊎_elim
    (λ j. le_trans (clash M A child c m s j.1 j.0 n w.0 h j.3 (under_ordered i a b c j.0 e j.2 p)) (le-max_left _ _))
    (λ j. absurd (after_child i next j.0 c b n w.1 w.2 j.1 (subst (λ x. Apart x b) e p)))
    (later_inside i child next ls b n k)
clash M A (beside i child rest) a m t ls b n w (inl (c, s, e, h, _)) k p =
    ⊎_elim
    (λ j. le_trans (clash M A child c m s j.1 j.0 n w.0 h j.3 (under_branch i a b c j.0 e j.2 p)) (A.left _ _))
    (λ j. A.more _ _ _ _ (counted M A child c m s h) (later_counted M A rest j.0 b n j.1))
    (later_beside i child rest ls b n k)
clash M A (beside i child rest) a m t ls b n w (inr (s, h, _)) k p =
    ⊎_elim
    (λ j. subst (λ x. x ≤ M.together (amount M child) (amount M rest)) (A.either_order (count M n) (count M m))
    (A.more _ _ _ _ (later_counted M A child j.1 j.0 n j.3) (counted M A rest a m s h)))
    (λ j. le_trans (clash M A rest a m s j.0 b n w.1 h j.1 p) (A.right _ _))
    (later_beside i child rest ls b n k)
clash M A (assign x w e) a m t ls b n _ (f, _, _) k p = bare a b _ f p
clash M A (send c w e) a m t ls b n _ (f, _) k p = lone 0 a b _ f p
clash M A (receive c x) a m t ls b n w (f, _, _) k p = bare a b _ f p
clash M A (sync c) a m t ls b n w (f, _) k p = lone 0 a b _ f p
clash M A (held c) a m t ls b n w (f, _, _) k p = lone 1 a b _ f p
clash M A (loop i body) a m t ls b n w (f, _, _) k p = lone (2 * i) a b _ f p
clash M A (while i e body) a m t ls b n w (f, _) k p = lone (2 * i) a b _ f p
clash M A (test d arms) a m t ls b n w (f, _) k p = lone 0 a b _ f p
clash M A (choose channels arms) a m t ls b n w (f, _, _, _, _, _, _) k p = lone 0 a b _ f p
clash M A (closing c) a m t ls b n w (f, _, _) k p = lone 2 a b _ f p
clash M A (drain c i) a m t ls b n w (f, _, _) k p = lone i a b _ f p
