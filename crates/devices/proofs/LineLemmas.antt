-- One line taken from a reader.
use Rattle.std.proofs.Common.{◌≡◌, ℕ, ◌+◌, ◌-◌, ◌<◌, Bool, true, false, cond, ◌&&◌, eqb, ltb, List, [], ◌∷◌, ◌++◌, Option, Some, None, length, take, get_or, refl, sym, ap, ◌∙◌, subst, inl, inr, arith, eqb-true, length-append, length-take}
use Rattle.std.specs.Option.{IfSome}
use Rattle.std.specs.List.{All}
use Rattle.std.specs.Io.{StopsAt, appended_bytes}
use Rattle.std.specs.Io.BufRead.{take_through, drop_through, ends_with_byte, DropsThrough}
use Rattle.std.specs.Io.KnownBytes.{Consumes, IsAtEnd}
use Rattle.std.proofs.lemmas.Bool.{false≢true, ltb-true, lt-ltb, cases_lt}
use Rattle.std.proofs.lemmas.List.{get_or-take, take_more, take_all}
use Rattle.std.proofs.lemmas.List.Elements.{All-head, All-tail, All-from_get_or}
use Rattle.std.proofs.Math.Seq.{take-append_seam}
use Rattle.devices.specs.Counting.{IsNoEnd}
use Rattle.devices.specs.Taking.{TakesLine, TakesPart}

-- a line without its end
abbrev IsLine : List ℕ → Type 0
IsLine text = All IsNoEnd text

-- both tests hold
both : (a b : Bool) → (a && b) ≡ true → (a ≡ true) × (b ≡ true)
both true b e = (refl, e)
both false b e = absurd (false≢true e)

-- not both tests hold
not-both : (a b : Bool) → (a && b) ≡ false → a ≡ true → b ≡ true → ⊥
not-both true b e h k = false≢true (sym e ∙ k)
not-both false b e h k = false≢true h

-- a text with an end is one without and the end
pub end-stripped : (xs : List ℕ) → ends_with_byte 10 xs ≡ true → xs ≡ take (length xs - 1) xs ++ 10 ∷ []
end-stripped xs e =
    let parts : (ltb 0 (length xs) ≡ true) × (eqb (get_or xs (length xs - 1) 0) 10 ≡ true) =
    both (ltb 0 (length xs)) (eqb (get_or xs (length xs - 1) 0) 10) e in
    let some : 0 < length xs = ltb-true 0 (length xs) parts.0 in
    let last : get_or xs (length xs - 1) 0 ≡ 10 = eqb-true (get_or xs (length xs - 1) 0) 10 parts.1 in
    sym (take_all (length xs - 1 + 1) xs (omega arith))
    ∙ (take_more xs (length xs - 1) 0 (omega arith) ∙ ap (λ b. take (length xs - 1) xs ++ b ∷ []) last)

-- how long a text without its last byte is
length-front : (xs : List ℕ) → length (take (length xs - 1) xs) ≡ length xs - 1
length-front xs = simp length-take (omega arith)

-- how long a line without its end is
length-front-end : (line : List ℕ) → length (line ++ 10 ∷ []) - 1 ≡ length line
length-front-end line = omega (arith, length-append line (10 ∷ []))

-- a text that stops at its first end, and has none, is a line
pub line-unended : (xs : List ℕ) → StopsAt xs 10 → ends_with_byte 10 xs ≡ false → IsLine xs
line-unended xs stops e =
    All-from_get_or IsNoEnd xs 0 (λ i h is. elim (cases_lt i (length xs - 1)) [
      | inl before ↦ stops i 0 (omega (arith, length-front xs, h, before)) (get_or-take (length xs - 1) xs i 0 before ∙ is)
      | inr at_last ↦
          let place : i ≡ length xs - 1 = omega (arith, h, at_last) in
          not-both (ltb 0 (length xs)) (eqb (get_or xs (length xs - 1) 0) 10) e (lt-ltb 0 (length xs) (omega (arith, h)))
          (ap (λ k. eqb k 10) (ap (λ j. get_or xs j 0) (sym place) ∙ is))
    ])

-- a text that stops at its first end is a line and the end
pub line-ended : (xs line : List ℕ) → xs ≡ line ++ 10 ∷ [] → StopsAt xs 10 → IsLine line
line-ended xs line e stops =
    let front : take (length xs - 1) xs ≡ line =
    ap (λ t. take (length t - 1) t) e
    ∙ (ap (λ n. take n (line ++ 10 ∷ [])) (length-front-end line) ∙ take-append_seam line (10 ∷ [])) in
    subst (λ t. All IsNoEnd t) front stops

-- one byte of a text that is taken up to its first end
through-step : (x : ℕ) (xs : List ℕ) (r : Bool) → r ≡ eqb x 10 → IsLine (cond r (x ∷ []) (x ∷ take_through 10 xs))
    → (IsLine (take_through 10 xs) → drop_through 10 xs ≡ []) → cond r xs (drop_through 10 xs) ≡ []
through-step x xs true p h more = absurd (All-head IsNoEnd x [] h (eqb-true x 10 (sym p)))
through-step x xs false p h more = more (All-tail IsNoEnd x (take_through 10 xs) h)

-- where all up to the first end has no end nothing is behind it
through-end : (xs : List ℕ) → IsLine (take_through 10 xs) → drop_through 10 xs ≡ []
through-end [] h = refl
through-end (x ∷ xs) h = through-step x xs (eqb x 10) refl h (λ k. through-end xs k)

-- a reader that gave a line without an end is at its end
pub reader-ended : (old new : Option (List ℕ)) (line : List ℕ) → IsLine line → IfSome old (λ xs. line ≡ take_through 10 xs)
    → DropsThrough old new 10 → IfSome old (λ _. IsAtEnd new)
reader-ended None new line h e d = tt
reader-ended (Some xs) new line h e d =
    subst IsAtEnd (sym d) (through-end xs (subst (λ t. All IsNoEnd t) e h))

-- what is read into an empty buffer
through-start : (old : Option (List ℕ)) (start read : List ℕ) → start ≡ [] → IfSome old (λ xs. read ≡ start ++ take_through 10 xs)
    → IfSome old (λ xs. read ≡ take_through 10 xs)
through-start None start read none h = tt
through-start (Some xs) start read none h = h ∙ ap (λ t. t ++ take_through 10 xs) none

-- a line that is there with its end
pub takes-ended : (old new : Option (List ℕ)) (start read line : List ℕ) → start ≡ [] → read ≡ line ++ 10 ∷ []
    → StopsAt (appended_bytes start read) 10 → Consumes old new (appended_bytes start read) → TakesLine old new line true
takes-ended old new start read line none e stops takes =
    let all : appended_bytes start read ≡ read = ap (λ t. appended_bytes t read) none in (
      line-ended read line e (subst (λ t. StopsAt t 10) all stops),
      subst (Consumes old new) (all ∙ e) takes,
    )

-- a last line without an end
pub takes-last : (old new : Option (List ℕ)) (start read line : List ℕ) → start ≡ []
    → (line ≡ read) × (ends_with_byte 10 read ≡ false) → StopsAt (appended_bytes start read) 10
    → Consumes old new (appended_bytes start read) → IfSome old (λ xs. read ≡ start ++ take_through 10 xs)
    → DropsThrough old new 10 → TakesLine old new line false
takes-last old new start read line none e stops takes bytes drops =
    let all : appended_bytes start read ≡ read = ap (λ t. appended_bytes t read) none in
    let one : IsLine read = line-unended read (subst (λ t. StopsAt t 10) all stops) e.1 in (
      subst (λ t. All IsNoEnd t) (sym e.0) one,
      (
        subst (Consumes old new) (all ∙ sym e.0) takes,
        reader-ended old new read one (through-start old start read none bytes) drops,
      ),
    )

-- a part of a line behind which the reader failed
pub takes-part : (old new : Option (List ℕ)) (start read line : List ℕ) → start ≡ []
    → (line ≡ read) × (ends_with_byte 10 read ≡ false) → StopsAt (appended_bytes start read) 10
    → Consumes old new (appended_bytes start read) → TakesPart old new line
takes-part old new start read line none e stops takes =
    let all : appended_bytes start read ≡ read = ap (λ t. appended_bytes t read) none in (
      subst (λ t. All IsNoEnd t) (sym e.0) (line-unended read (subst (λ t. StopsAt t 10) all stops) e.1),
      subst (Consumes old new) (all ∙ sym e.0) takes,
    )
