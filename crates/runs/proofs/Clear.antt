-- What was done once is behind: each later move is after it or in another branch.
use Rattle.runs.proofs.public.Lists.{every-map}
use Rattle.std.proofs.Common.{◌≡◌, ◌⊎◌, inl, inr, ℕ, List, [], ◌∷◌, arith}
use Rattle.syntax.specs.Lists.{Every}
use Rattle.runs.specs.Moves.{Place}
use Rattle.address.specs.Places.{Before, Apart}
use Rattle.address.specs.declared.Entry.TheVariants.{Ordered, Branch}
use Rattle.system.specs.Residual.{Residual}
use Rattle.runs.specs.Events.{Located}
use Rattle.runs.specs.Steps.{Moves}
use Rattle.address.proofs.public.Places.{before-irreflexive, before-asymmetric, before-not-apart, apart-symmetric, apart-irreflexive}
use Rattle.runs.proofs.public.WellFormed.{WellFormed}
use Rattle.runs.proofs.public.Kept.{formed}
use Rattle.runs.proofs.Pair.{pair}

-- a is before b, or in another branch
abbrev pub Clear : Place → Place → Type 0
Clear a b = Before a b ⊎ Apart a b

-- no place is clear of itself
pub clear-irreflexive : (a : Place) → Clear a a → ⊥
clear-irreflexive a h = elim h [ inl u ↦ before-irreflexive a u | inr u ↦ apart-irreflexive a u ]

-- what stands after a does not stand before it
pub clear-not-before : (a b : Place) → Clear a b → Before b a → ⊥
clear-not-before a b h l =
    elim h [ inl u ↦ before-asymmetric a b u l | inr u ↦ before-not-apart b a l (apart-symmetric a b u) ]

-- what is clear of a later place is clear of an earlier one
pub clear_on : (a c b : Place) → Before a c → Clear c b → Clear a b
clear_on [] c b h k = absurd h
clear_on (Ordered i ∷ a) [] b h k = absurd h
clear_on (Branch i ∷ a) [] b h k = absurd h
clear_on (Ordered i ∷ a) (Branch j ∷ c) b h k = absurd h
clear_on (Branch i ∷ a) (Ordered j ∷ c) b h k = absurd h
clear_on (Ordered i ∷ a) (Ordered j ∷ c) [] h k = elim k [ inl u ↦ absurd u | inr u ↦ absurd u ]
clear_on (Branch i ∷ a) (Branch j ∷ c) [] h k = elim k [ inl u ↦ absurd u | inr u ↦ absurd u ]
clear_on (Ordered i ∷ a) (Ordered j ∷ c) (Branch n ∷ b) h k = elim k [ inl u ↦ absurd u | inr u ↦ absurd u ]
clear_on (Branch i ∷ a) (Branch j ∷ c) (Ordered n ∷ b) h k = elim k [ inl u ↦ absurd u | inr u ↦ absurd u ]
clear_on (Ordered i ∷ a) (Ordered j ∷ c) (Ordered n ∷ b) h k =
    elim h [
      | inl less ↦ elim k [ inl (inl u) ↦ inl (inl (omega (arith, less, u))) | inl (inr u) ↦ inl (inl (omega (arith, less, u.0))) | inr u ↦ inl (inl (omega (arith, less, u.0))) ]
      | inr same ↦ elim k [
        | inl (inl u) ↦ inl (inl (omega (arith, same.0, u)))
        | inl (inr u) ↦ step-ordered i n (omega (arith, same.0, u.0)) a b (clear_on a c b same.1 (inl u.1))
        | inr u ↦ step-ordered i n (omega (arith, same.0, u.0)) a b (clear_on a c b same.1 (inr u.1))
      ]
    ]
  where
    step-ordered : (i n : ℕ) → i ≡ n → (a b : Place) → Clear a b → Clear (Ordered i ∷ a) (Ordered n ∷ b)
    step-ordered i n e a b h = elim h [ inl u ↦ inl (inr (e, u)) | inr u ↦ inr (e, u) ]
clear_on (Branch i ∷ a) (Branch j ∷ c) (Branch n ∷ b) h k =
    elim k [
      | inl u ↦ step-branch i n (omega (arith, h.0, u.0)) a b (clear_on a c b h.1 (inl u.1))
      | inr (inl u) ↦ inr (inl (λ e. u (omega (arith, h.0, e))))
      | inr (inr u) ↦ step-branch i n (omega (arith, h.0, u.0)) a b (clear_on a c b h.1 (inr u.1))
    ]
  where
    step-branch : (i n : ℕ) → i ≡ n → (a b : Place) → Clear a b → Clear (Branch i ∷ a) (Branch n ∷ b)
    step-branch i n e a b h = elim h [ inl u ↦ inl (e, u) | inr u ↦ inr (inr (e, u)) ]

-- each move after one is clear of it
pub ever : (r q : Residual) (l : Located) (ls : List Located) → WellFormed r → Moves r (l ∷ ls) q → Every (λ k. Clear l.place k.place) ls
ever r q l [] w h = tt
ever r q l (k ∷ ks) w h =
    elim (pair r l.place k.place l.move k.move h.0 h.2.0 w h.1 h.2.1) [
      | inl early ↦ (inl early, every-map (λ y. Clear k.place y.place) (λ y. Clear l.place y.place) ks (λ y later. clear_on l.place k.place y.place early later) (ever h.0 q k ks (formed r l.place l.move h.0 w h.1) h.2))
      | inr s ↦ (inr s.apart, ever s.between q l ks (formed r k.place k.move s.between w s.first) (h.2.0, s.second, h.2.2))
    ]
