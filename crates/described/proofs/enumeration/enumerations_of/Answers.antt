-- The next enumeration is the one whose name comes next, if there is one.
use Rattle.std.proofs.Common.{◌≡◌, ◌<◌, ℕ, zero, suc, ◌+◌, ◌-◌, List, [], ◌∷◌, ◌++◌, drop, take, length, length-drop, refl, ap, sym, ◌∙◌, arith, append_assoc}
use Rattle.std.proofs.lemmas.List.{take_all}
use Rattle.lexer.specs.declared.token.Token.{Token}
use Rattle.described.specs.Enumerations.{enumerations_of, first_in}
use Rattle.described.specs.declared.enumeration.Enumeration.{Enumeration}
use Rattle.described.proofs.enumeration.enumerations_of.Goals as goal

next : (ts : List Token) (i : ℕ) → i < length ts → enumerations_of (drop i ts) ≡ first_in (drop i ts) ++ enumerations_of (drop (i + 1) ts)
next [] i lt = absurd (omega (arith, lt))
next (t ∷ ts) zero lt = refl
next (t ∷ ts) (suc i) lt =
    let same : suc (i + 1) ≡ suc i + 1 = omega arith in
    next ts i (omega (arith, lt)) ∙ ap (λ (k : ℕ). first_in (drop i ts) ++ enumerations_of (drop k (t ∷ ts))) same

pub loop-index-preserved : goal.loop-index-preserved
loop-index-preserved c =
    let i = c.loop-index.index in
    let ts = c.args.tokens.now in
    let rest = enumerations_of (drop (i + 1) ts) in
    let whole : take (length ts - i) (drop i ts) ≡ drop i ts = take_all (length ts - i) (drop i ts) (omega (arith, length-drop i ts)) in
    ap (λ (found : List Enumeration). found ++ rest)
    (c.in_ok-add_first.ensures ∙ ap (λ (left : List Token). c.loop-index.found ++ first_in left) whole)
    ∙ (append_assoc c.loop-index.found (first_in (drop i ts)) rest
    ∙ (ap (λ (found : List Enumeration). c.loop-index.found ++ found) (sym (next ts i c.loop-index-test.true)) ∙ c.loop-index.invariant))
