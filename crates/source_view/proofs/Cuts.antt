-- The lines of a source, as they are cut from it.
use Rattle.std.proofs.Common.{◌≡◌, ◌≢◌, ℕ, suc, ◌+◌, ◌<◌, ◌≤◌, Bool, true, false, not, cond, List, [], ◌∷◌, length, take, drop, refl, ap, ◌∙◌, subst, arith}
use Rattle.std.specs.List.{position_or_len, onto_first, count_by}
use Rattle.std.proofs.lemmas.List.Recursion.{is_count_by}
use Rattle.syntax.specs.Texts.{is_end, lines}

-- a byte before a cut
cut-step : (t : Bool) (b place : ℕ) (s : List ℕ) → cond (not t) (1 + place) 0 < suc (length s)
    → (place < length s → lines s ≡ take place s ∷ lines (drop (place + 1) s))
    → cond t ([] ∷ lines s) (onto_first b (lines s))
    ≡ take (cond (not t) (1 + place) 0) (b ∷ s) ∷ lines (drop (cond (not t) (1 + place) 0 + 1) (b ∷ s))
cut-step true b place s h more = refl
cut-step false b place s h more =
    let same : suc place ≡ 1 + place = omega arith in
    let next : suc (place + 1) ≡ 1 + place + 1 = omega arith in
    ap (λ (ls : List (List ℕ)). onto_first b ls) (more (omega arith))
    ∙ (ap (λ (n : ℕ). take n (b ∷ s) ∷ lines (drop (place + 1) s)) same
    ∙ ap (λ (n : ℕ). take (1 + place) (b ∷ s) ∷ lines (drop n (b ∷ s))) next)

-- the first byte that ends a line ends the first one
pub cut-at : (s : List ℕ) → position_or_len is_end s < length s
    → lines s ≡ take (position_or_len is_end s) s ∷ lines (drop (position_or_len is_end s + 1) s)
cut-at [] h = absurd (omega arith)
cut-at (b ∷ s) h = cut-step (is_end b) b (position_or_len is_end s) s h (cut-at s)

-- a byte of a source that is one line
whole-step : (t : Bool) (b place : ℕ) (s : List ℕ) → suc (length s) ≤ cond (not t) (1 + place) 0
    → (s ≢ [] → length s ≤ place → lines s ≡ s ∷ [])
    → cond t ([] ∷ lines s) (onto_first b (lines s)) ≡ (b ∷ s) ∷ []
whole-step true b place s h more = absurd (omega arith)
whole-step false b place [] h more = refl
whole-step false b place (c ∷ s) h more = ap (λ (ls : List (List ℕ)). onto_first b ls) (more (λ e. cc) (omega arith))

-- where no byte ends a line the source is one
pub whole : (s : List ℕ) → s ≢ [] → length s ≤ position_or_len is_end s → lines s ≡ s ∷ []
whole [] not h = absurd (not refl)
whole (b ∷ s) not h = whole-step (is_end b) b (position_or_len is_end s) s h (whole s)

-- one line more at most
length-onto_first : (b most : ℕ) (ls : List (List ℕ)) → length ls ≤ most + 1 → length (onto_first b ls) ≤ most + 1
length-onto_first b most [] h = omega arith
length-onto_first b most (l ∷ ls) h = h

count-step : (t : Bool) (b count : ℕ) (s : List ℕ) → length (lines s) ≤ count + 1
    → length (cond t ([] ∷ lines s) (onto_first b (lines s))) ≤ cond t (1 + count) count + 1
count-step true b count s h = omega arith
count-step false b count s h = length-onto_first b count (lines s) h

-- how many bytes end a line, byte by byte
abbrev ends : List ℕ → ℕ
ends [] = 0
ends (b ∷ s) = cond (is_end b) (1 + ends s) (ends s)

few-of-ends : (s : List ℕ) → length (lines s) ≤ ends s + 1
few-of-ends [] = omega arith
few-of-ends (b ∷ s) = count-step (is_end b) b (ends s) s (few-of-ends s)

-- there is at most one line more than bytes that end one
pub few-lines : (s : List ℕ) → length (lines s) ≤ count_by is_end s + 1
few-lines s = subst (λ (n : ℕ). length (lines s) ≤ n + 1) (is_count_by ends is_end refl (λ b rest. refl) s) (few-of-ends s)
