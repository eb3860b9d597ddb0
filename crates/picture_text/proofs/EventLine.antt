-- The text of an event in its line.
use Rattle.std.proofs.Common.{◌≡◌, ◌∙◌, ℕ, ◌+◌, ◌-◌, ◌≤◌, List, [], ◌∷◌, ◌++◌, length, length-append, take, drop, ap, arith, lit<}
use Rattle.std.specs.Prelude.{slice_range}
use Rattle.std.specs.Fmt.{decimal}
use Rattle.std.proofs.lemmas.Fmt.{decimal_digit}
use Rattle.std.proofs.lemmas.List.{take-append-le}
use Rattle.system.specs.declared.system.System.{System}
use Rattle.runs.specs.declared.event.Event.{Event}
use Rattle.line_text.specs.AnswerText.{ending, entry_text}
use Rattle.line_text.specs.EventText.{event_text, field}
use Rattle.dependence.proofs.public.ListPlaces.{take-all}

-- what stands between the first three bytes and the last
inner-of : (line t : List ℕ) → line ≡ 32 ∷ 48 ∷ 32 ∷ (t ++ 10 ∷ []) → slice_range line 3 (length line - 1) ≡ t
inner-of line t is =
    let whole : length line ≡ length (32 ∷ 48 ∷ 32 ∷ (t ++ 10 ∷ [])) = ap length is in
    let more : length (t ++ 10 ∷ []) ≡ length t + 1 = length-append t (10 ∷ []) in
    let size : (length line - 1) - 3 ≡ length t = omega arith in
    let within : length t ≤ length t = omega arith in
    ap (λ (n : ℕ). take n (drop 3 line)) size
    ∙ (ap (λ (l : List ℕ). take (length t) (drop 3 l)) is ∙ (take-append-le (length t) t (10 ∷ []) within ∙ take-all t (length t) within))

line-is : (system : System) (e : Event) (line : List ℕ) → line ≡ entry_text system [] 0 e → line ≡ 32 ∷ 48 ∷ 32 ∷ (event_text system e ++ 10 ∷ [])
line-is system e line is =
    let none : decimal 0 ≡ 48 ∷ [] = decimal_digit 0 (lit< tt) in
    is ∙ ap (λ (ds : List ℕ). [] ++ field ds ++ field (event_text system e) ++ ending) none

pub inner-of-line : (system : System) (e : Event) (line : List ℕ) → line ≡ entry_text system [] 0 e →
    slice_range line 3 (length line - 1) ≡ event_text system e
inner-of-line system e line is = inner-of line (event_text system e) (line-is system e line is)

pub long-enough : (system : System) (e : Event) (line : List ℕ) → line ≡ entry_text system [] 0 e → 4 ≤ length line
long-enough system e line is =
    let t : List ℕ = event_text system e in
    let whole : length line ≡ length (32 ∷ 48 ∷ 32 ∷ (t ++ 10 ∷ [])) = ap length (line-is system e line is) in
    let more : length (t ++ 10 ∷ []) ≡ length t + 1 = length-append t (10 ∷ []) in
    omega arith
