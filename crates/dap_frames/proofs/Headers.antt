-- The header, a byte at a time.
use Rattle.std.proofs.Common.{◌≡◌, ℕ, zero, suc, ◌+◌, ◌<◌, ◌≤◌, refl, List, [], ◌∷◌, length, drop, get_or, cond, true, false, Bool, Some, ap, sym, ◌∙◌, arith, ◌==◌}
use Rattle.std.proofs.lemmas.List.{drop_more, drop-drop, length-drop}
use Rattle.dap_frames.specs.Header as model

passed : (x : ℕ) (xs : List ℕ) (n : ℕ) → model.ends_here (x ∷ xs) ≡ false →
    model.header_length_from n (x ∷ xs) ≡ model.header_length_from (n + 1) xs
passed x xs n none = ap (λ (b : Bool). cond b (Some (n + 4)) (model.header_length_from (n + 1) xs)) none

-- no header ends at this byte
pub header-more : (bytes : List ℕ) (i : ℕ) → i < length bytes → model.ends_here (drop i bytes) ≡ false →
    model.header_length_from i (drop i bytes) ≡ model.header_length_from (i + 1) (drop (i + 1) bytes)
header-more bytes i less none =
    let e = drop_more bytes i 0 less in
    let here : model.ends_here (get_or bytes i 0 ∷ drop (i + 1) bytes) ≡ false = ap model.ends_here (sym e) ∙ none in
    ap (λ (xs : List ℕ). model.header_length_from i xs) e ∙ passed (get_or bytes i 0) (drop (i + 1) bytes) i here

found : (l : List ℕ) → 0 < length l → model.has_key l ≡ true → model.value_text true l ≡ Some (drop 15 l)
found [] some all = absurd (omega arith)
found (x ∷ xs) some all = ap (λ (b : Bool). cond b (Some (drop 15 (x ∷ xs))) (model.value_text (x == 10) xs)) all

-- the key stands at this byte
pub key-here : (text : List ℕ) (i : ℕ) → i < length text → model.has_key (drop i text) ≡ true →
    model.value_text true (drop i text) ≡ Some (drop (i + 15) text)
key-here text i less all =
    found (drop i text) (omega (arith, length-drop i text)) all ∙ ap (λ (xs : List ℕ). Some xs) (drop-drop 15 i text)

-- no key begins in nothing
key-none : (key : List ℕ) (i : ℕ) → i < length key → model.begins_with (drop i key) [] ≡ false
key-none [] i less = absurd (omega arith)
key-none (k ∷ key) zero less = refl
key-none (k ∷ key) (suc i) less = key-none key i (omega arith)

-- no key begins where the text ends
pub key-cut : (key text : List ℕ) (i : ℕ) → i < length key → length text ≤ i → model.begins_with (drop i key) (drop i text) ≡ false
key-cut [] text i less end = absurd (omega arith)
key-cut (k ∷ key) [] zero less end = refl
key-cut (k ∷ key) (x ∷ text) zero less end = absurd (omega arith)
key-cut (k ∷ key) [] (suc i) less end = key-none key i (omega arith)
key-cut (k ∷ key) (x ∷ text) (suc i) less end = key-cut key text i (omega arith) (omega arith)
