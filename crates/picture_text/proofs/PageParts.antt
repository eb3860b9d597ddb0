-- A page of its parts.
use Rattle.std.proofs.Common.{◌≡◌, ◌∙◌, ℕ, List, [], ◌++◌, ap, append_assoc}

pub of-parts : (x y z v w b d p before script drawing panel : List ℕ) → x ≡ [] → b ≡ before → d ≡ drawing → p ≡ panel → y ≡ x ++ b → z ≡ y ++ script →
    v ≡ z ++ d → w ≡ v ++ p → w ≡ before ++ script ++ drawing ++ panel
of-parts x y z v w b d p before script drawing panel none at-before at-drawing at-panel one two three four =
    let first : y ≡ before = one ∙ (ap (λ (t : List ℕ). t ++ b) none ∙ at-before) in
    let second : z ≡ before ++ script = two ∙ ap (λ (t : List ℕ). t ++ script) first in
    let third : v ≡ before ++ script ++ drawing =
    three ∙ (ap (λ (t : List ℕ). t ++ d) second ∙ ap (λ (t : List ℕ). before ++ script ++ t) at-drawing) in
    four ∙ (ap (λ (t : List ℕ). t ++ p) third ∙ ap (λ (t : List ℕ). before ++ script ++ drawing ++ t) at-panel)

-- a text behind which stand three parts
pub behind-parts : (x y z w a s b : List ℕ) → y ≡ x ++ a → z ≡ y ++ s → w ≡ z ++ b → w ≡ x ++ (a ++ (s ++ b))
behind-parts x y z w a s b one two three =
    three
    ∙ (ap (λ (t : List ℕ). t ++ b) (two ∙ ap (λ (t : List ℕ). t ++ s) one)
    ∙ (append_assoc (x ++ a) s b ∙ append_assoc x a (s ++ b)))
