-- The central lemma: of two moves in turn either the place of the first is before that of the second,
-- or the two are apart and can be made in the other order.
use Rattle.std.proofs.Common.{◌≡◌, ◌⊎◌, inl, inr, ℕ, ◌+◌, ◌*◌, [], ◌∷◌, refl, arith}
use Rattle.runs.specs.Moves.{Place, Move, Local}
use Rattle.address.specs.Places.{Before, Apart}
use Rattle.address.specs.declared.Entry.TheVariants.{Ordered, Branch}
use Rattle.system.specs.Residual.{Residual, done, halted, inside, beside, assign, send, receive, sync, held, loop, while, test, choose, closing, drain, within, along, arm_at, opened}
use Rattle.runs.proofs.Smart.{local_within, within_local, local_along, along_left, along_right}
use Rattle.runs.proofs.public.WellFormed.{StartsFrom, WellFormed, starts-within}
use Rattle.runs.proofs.public.Kept.{starts-place, branches-place, StartsAt, BranchesAt}

-- the moves m at a and n at b, made in this order from r to q, can be made in the other
pub record Swapped (r : Residual) (a : Place) (m : Move) (b : Place) (n : Move) (q : Residual) : Type 0 where
  pub apart : Apart a b
  pub between : Residual
  pub first : Local r b n between
  pub second : Local between a m q

-- a move at p.i, and then one at p.j with i < j
pub ordered-before : (i : ℕ) (a b c : Place) → a ≡ Ordered i ∷ c → StartsAt (i + 1) b → Before a b
ordered-before i a b c ea s =
    rw (ea, s.is) (inl (omega (arith, s.from)))

-- what a leaf leaves is later
leaf : (i : ℕ) (a b : Place) (s : Residual) (n : Move) (q : Residual) →
    a ≡ Ordered i ∷ [] → StartsFrom (i + 1) s → Local s b n q → Before a b
leaf i a b s n q ea st h = ordered-before i a b [] ea (starts-place (i + 1) s b n q st h)

module _ (i : ℕ) (child next : Residual) (a b c : Place) (m n : Move) (t q : Residual) where
  -- two moves of a sequence, the first in its child
  pair-inside : WellFormed (inside i child next) → (a ≡ Ordered i ∷ c) → Local child c m t → Local (within i t next) b n q →
      ((d : Place) (u : Residual) → Local t d n u → Before c d ⊎ Swapped child c m d n u) →
      Before a b ⊎ Swapped (inside i child next) a m b n q
  pair-inside w ea hc k below =
      elim (local_within i t next b n q k) [
        | inl u ↦ inl (ordered-before i a b c ea (starts-place (i + 1) next b n q w.2 u.1))
        | inr u ↦ elim (below u.0 u.1 u.3) [
          | inl early ↦ inl (rw (ea, u.2) (inr (refl, early)))
          | inr s ↦ inr (record {
            apart = rw (ea, u.2) (refl, s.apart);
            between = within i s.between next;
            first = (u.0, s.between, u.2, s.first, refl);
            second = rw (ea, u.4) (within_local i s.between next c m u.1 s.second);
          })
        ]
      ]

-- a place in a branch is apart from places in later branches
branch-apart : (k : ℕ) (a b c : Place) → a ≡ Branch k ∷ c → BranchesAt (k + 1) b → Apart a b
branch-apart k a b c ea s = rw (ea, s.is) (inl (λ e. omega (arith, e, s.from)))

branch-apart′ : (k : ℕ) (a b c : Place) → b ≡ Branch k ∷ c → BranchesAt (k + 1) a → Apart a b
branch-apart′ k a b c eb s = rw (eb, s.is) (inl (λ e. omega (arith, e, s.from)))

module _ (k : ℕ) (child rest : Residual) (a b : Place) (m n : Move) (q : Residual) (w : WellFormed (beside k child rest)) where
  -- two moves of a parallel, the first in its first branch
  pair-left : (c : Place) (t : Residual) → (a ≡ Branch k ∷ c) → Local child c m t → Local (along k t rest) b n q →
      ((d : Place) (u : Residual) → Local t d n u → Before c d ⊎ Swapped child c m d n u) →
      Before a b ⊎ Swapped (beside k child rest) a m b n q
  pair-left c t ea hc h below =
      elim (local_along k t rest b n q h) [
        | inl u ↦ inr (record {
          apart = branch-apart k a b c ea (branches-place (k + 1) rest b n q w.2 w.1 u.1);
          between = along k child q;
          first = inr (q, u.1, refl);
          second = rw ea (let moved = along_left k child q c m t hc in rw u.0 at moved);
        })
        | inr (inl u) ↦ elim (below u.0 u.1 u.3) [
          | inl early ↦ inl (rw (ea, u.2) (refl, early))
          | inr s ↦ inr (record {
            apart = rw (ea, u.2) (inr (refl, s.apart));
            between = along k s.between rest;
            first = inl (u.0, s.between, u.2, s.first, refl);
            second = rw (ea, u.4) (along_left k s.between rest c m u.1 s.second);
          })
        ]
        | inr (inr u) ↦ inr (record {
          apart = branch-apart k a b c ea (branches-place (k + 1) rest b n u.0 w.2 w.1 u.1);
          between = along k child u.0;
          first = inr (u.0, u.1, refl);
          second = rw (ea, u.2) (along_left k child u.0 c m t hc);
        })
      ]

  -- two moves of a parallel, the first in the other branches
  pair-right : (t : Residual) → Local rest a m t → Local (along k child t) b n q →
      BranchesAt (k + 1) a → ((u : Residual) → Local t b n u → Before a b ⊎ Swapped rest a m b n u) →
      Before a b ⊎ Swapped (beside k child rest) a m b n q
  pair-right t ha h far below =
      elim (local_along k child t b n q h) [
        | inl u ↦ elim (below q u.1) [
          | inl early ↦ inl early
          | inr s ↦ inr (record {
            apart = s.apart;
            between = along k child s.between;
            first = inr (s.between, s.first, refl);
            second = rw u.0 s.second;
          })
        ]
        | inr (inl u) ↦ inr (record {
          apart = branch-apart′ k a b u.0 u.2 far;
          between = along k u.1 rest;
          first = inl (u.0, u.1, u.2, u.3, refl);
          second = rw u.4 (along_right k u.1 rest a m t ha);
        })
        | inr (inr u) ↦ elim (below u.0 u.1) [
          | inl early ↦ inl early
          | inr s ↦ inr (record {
            apart = s.apart;
            between = along k child s.between;
            first = inr (s.between, s.first, refl);
            second = rw u.2 (along_right k child s.between a m u.0 s.second);
          })
        ]
      ]

-- nothing is left to move
gone : (a b : Place) (s : Residual) (n : Move) (q : Residual) → s ≡ done → Local s b n q → {A : Type 0} → A
gone a b s n q e h = absurd (rw e at h)

-- two moves in turn
pub pair : (r : Residual) (a b : Place) (m n : Move) (s q : Residual) → WellFormed r → Local r a m s → Local s b n q →
    Before a b ⊎ Swapped r a m b n q
pair done a b m n s q w h k = absurd h
pair halted a b m n s q w h k = absurd h
pair (inside i child next) a b m n s q w h k =
    pair-inside i child next a b h.0 m n h.1 q w h.2 h.3 (rw h.4 at k)
    (λ d u below. pair child h.0 d m n h.1 u w.0 h.3 below)
pair (beside k child rest) a b m n s q w h l =
    elim h [
      | inl u ↦ pair-left k child rest a b m n q w u.0 u.1 u.2 u.3 (rw u.4 at l)
          (λ d v below. pair child u.0 d m n u.1 v w.0 u.3 below)
      | inr u ↦ pair-right k child rest a b m n q w u.0 u.1 (rw u.2 at l) (branches-place (k + 1) rest a m u.0 w.2 w.1 u.1)
          (λ v below. pair rest a b m n u.0 v w.1 u.1 below)
    ]
pair (assign x d e) a b m n s q w h k = gone a b s n q h.2 k
pair (send c d e) a b m n s q w h k =
    elim h.1 [ inl u ↦ gone a b s n q u.1 k | inr u ↦ inl (leaf 0 a b s n q h.0 (rw u.1 (omega arith)) k) ]
pair (receive c x) a b m n s q w h k = gone a b s n q h.2 k
pair (sync c) a b m n s q w h k =
    elim h.1 [ inl u ↦ gone a b s n q u.1 k | inr u ↦ inl (leaf 0 a b s n q h.0 (rw u.1 (omega arith)) k) ]
pair (held c) a b m n s q w h k = gone a b s n q h.2 k
pair (loop j body) a b m n s q w h k =
    inl (leaf (2 * j) a b s n q h.0 (rw h.2 (starts-within (2 * j + 1) (2 * j + 1) body (loop (j + 1) body) (omega arith) (omega arith))) k)
pair (while j e body) a b m n s q w h k =
    elim h.1 [
      | inl u ↦ inl (leaf (2 * j) a b s n q h.0 (rw u.1 (starts-within (2 * j + 1) (2 * j + 1) body (while (j + 1) e body) (omega arith) (omega arith))) k)
      | inr u ↦ gone a b s n q u.1 k
    ]
pair (test d arms) a b m n s q w h k =
    elim h.1 [
      | inl u ↦ inl (leaf 0 a b s n q h.0 (rw u.2 (starts-within 1 1 (arm_at arms u.0) done (omega arith) tt)) k)
      | inr u ↦ gone a b s n q u.1 k
    ]
pair (choose channels arms) a b m n s q w h k =
    inl (leaf 0 a b s n q h.0 (rw h.6 (starts-within 1 1 (opened h.1 h.3 (arm_at arms h.2)) (closing h.1) (omega arith) (omega arith))) k)
pair (closing c) a b m n s q w h k = gone a b s n q h.2 k
pair (drain c j) a b m n s q w h k =
    let later : Local (drain c (j + 1)) b n q = rw h.2 at k in
    inl (ordered-before j a b [] h.0 (record { number = j + 1; rest = []; is = later.0; from = omega arith }))
