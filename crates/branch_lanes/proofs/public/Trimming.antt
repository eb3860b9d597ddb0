-- What taking zeros from the end leaves, and that places that are apart have different lanes.
use Rattle.std.proofs.Common.{◌≡◌, ◌≢◌, inl, inr, ℕ, zero, suc, ◌<◌, List, [], ◌∷◌, length, get_or, take, refl, sym, ◌∙◌, ap, arith}
use Rattle.address.specs.declared.Entry.{Entry}
use Rattle.address.specs.declared.Entry.TheVariants.{Ordered, Branch}
use Rattle.address.specs.Places.{Apart}
use Rattle.branch_lanes.specs.Lanes.{before_others, branch_numbers, lane_of, trimmed, without_zeros}

-- a zero at the end is left out
pub without-last : (ns : List ℕ) (k : ℕ) → length ns ≡ suc k → get_or ns k 0 ≡ 0 → without_zeros (take k ns) ≡ without_zeros ns
without-last [] k h z = absurd (omega arith)
without-last (zero ∷ []) zero h z = refl
without-last (suc n ∷ []) zero h z = absurd (omega arith)
without-last (n ∷ []) (suc k) h z = absurd (omega arith)
without-last (n ∷ m ∷ ns) zero h z = absurd (omega arith)
without-last (n ∷ m ∷ ns) (suc k) h z = let less : length (m ∷ ns) ≡ suc k = omega arith in ap (before_others n) (without-last (m ∷ ns) k less z)

pub trimmed-last : (ns : List ℕ) (k : ℕ) → length ns ≡ suc k → 0 < k → get_or ns k 0 ≡ 0 → trimmed (take k ns) ≡ trimmed ns
trimmed-last ns zero h more z = absurd (omega arith)
trimmed-last [] (suc k) h more z = absurd (omega arith)
trimmed-last (n ∷ ns) (suc k) h more z = let less : length ns ≡ suc k = omega arith in ap (λ ms. n ∷ ms) (without-last ns k less z)

-- where the last number is not 0, all stay
pub without-none : (ns : List ℕ) (k : ℕ) → length ns ≡ suc k → get_or ns k 0 ≢ 0 → without_zeros ns ≡ ns
without-none [] k h z = absurd (omega arith)
without-none (zero ∷ []) zero h z = absurd (z refl)
without-none (suc n ∷ []) zero h z = refl
without-none (n ∷ []) (suc k) h z = absurd (omega arith)
without-none (n ∷ m ∷ ns) zero h z = absurd (omega arith)
without-none (n ∷ m ∷ ns) (suc k) h z = let less : length (m ∷ ns) ≡ suc k = omega arith in ap (before_others n) (without-none (m ∷ ns) k less z)

pub trimmed-none : (ns : List ℕ) (k : ℕ) → length ns ≡ suc k → get_or ns k 0 ≢ 0 → trimmed ns ≡ ns
trimmed-none [] k h z = refl
trimmed-none (n ∷ []) k h z = refl
trimmed-none (n ∷ m ∷ ns) zero h z = absurd (omega arith)
trimmed-none (n ∷ m ∷ ns) (suc k) h z = let less : length (m ∷ ns) ≡ suc k = omega arith in ap (λ ms. n ∷ ms) (without-none (m ∷ ns) k less z)

-- within a list it does not matter what stands for a number behind its end
pub same-default : (ns : List ℕ) (k d e : ℕ) → k < length ns → get_or ns k d ≡ get_or ns k e
same-default [] k d e h = absurd (omega arith)
same-default (n ∷ ns) zero d e h = refl
same-default (n ∷ ns) (suc k) d e h = let less : k < length ns = omega arith in same-default ns k d e less

-- number k of a list, 0 behind its end, is the same without the zeros at the end
at-before : (n k : ℕ) (ns : List ℕ) → get_or (before_others n ns) k 0 ≡ get_or (n ∷ ns) k 0
at-before zero zero [] = refl
at-before zero (suc k) [] = refl
at-before (suc n) k [] = refl
at-before n k (m ∷ ns) = refl

pub at-without : (ns : List ℕ) (k : ℕ) → get_or (without_zeros ns) k 0 ≡ get_or ns k 0
at-without [] k = refl
at-without (n ∷ ns) zero = at-before n zero (without_zeros ns)
at-without (n ∷ ns) (suc k) = at-before n (suc k) (without_zeros ns) ∙ at-without ns k

pub at-trimmed : (ns : List ℕ) (k : ℕ) → get_or (trimmed ns) k 0 ≡ get_or ns k 0
at-trimmed [] k = refl
at-trimmed (n ∷ ns) zero = refl
at-trimmed (n ∷ ns) (suc k) = at-without ns k

-- places that are apart have different branch numbers somewhere
pub differ-at : (a b : List Entry) → Apart a b → (k : ℕ) × (get_or (branch_numbers a) k 0 ≢ get_or (branch_numbers b) k 0)
differ-at [] b h = absurd h
differ-at (x ∷ a) [] h = absurd h
differ-at (Ordered i ∷ a) (Ordered j ∷ b) h = differ-at a b h.1
differ-at (Ordered i ∷ a) (Branch j ∷ b) h = absurd h
differ-at (Branch i ∷ a) (Ordered j ∷ b) h = absurd h
differ-at (Branch i ∷ a) (Branch j ∷ b) h =
    elim h [ inl other ↦ (zero, other) | inr same ↦ let later = differ-at a b same.1 in (suc later.0, later.1) ]

pub apart-in-lanes : (a b : List Entry) → Apart a b → lane_of a ≢ lane_of b
apart-in-lanes a b h same =
    let at = differ-at a b h in
    at.1 (sym (at-trimmed (branch_numbers a) at.0) ∙ (ap (λ ns. get_or ns at.0 0) same ∙ at-trimmed (branch_numbers b) at.0))
