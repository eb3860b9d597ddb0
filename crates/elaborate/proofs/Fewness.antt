-- A text has no more entries than bytes.
use Rattle.std.proofs.Common.{◌≡◌, ℕ, suc, ◌+◌, ◌≤◌, ◌==◌, List, [], ◌∷◌, ◌++◌, length, true, false, refl, ap, ◌∙◌, subst, inl, inr, arith, Bool}
use Rattle.std.specs.List.{onto_first}
use Rattle.std.proofs.lemmas.Bool.{cases_Bool}
use Rattle.std.proofs.lemmas.List.{append-nil, length-append, nil_from_length}
use Rattle.std.specs.Fmt.{decimal}
use Rattle.syntax.specs.Texts.{Text, lines}
use Rattle.elaborate.specs.StimulusText.{numbers_text, given_text, Gives, AreEntries}
use Rattle.elaborate.specs.declared.stimulus.Given.{Given}
use Rattle.elaborate.specs.declared.stimulus.Given.TheVariants.{Values, Syncs}
use Rattle.elaborate.specs.declared.stimulus.Entry.{Entry}

-- how many lines are not empty
filled : List Text → ℕ
filled [] = 0
filled ([] ∷ rest) = filled rest
filled ((x ∷ xs) ∷ rest) = suc (filled rest)

-- a line that gives something is not empty
no_entry : (name : Text) (given : Given) → Gives [] name given → ⊥
no_entry [] (Values ns) g = let e : [] ≡ 32 ∷ 61 ∷ numbers_text ns = g.2 in cc
no_entry [] (Syncs n) g = let e : [] ≡ 32 ∷ 42 ∷ 32 ∷ decimal n = g.2 in cc
no_entry (x ∷ xs) given g = let e : [] ≡ x ∷ (xs ++ given_text given) = g.2 in cc

-- each entry has a line
entries_filled : (n : ℕ) (rest : List Text) (entries : List Entry) → AreEntries n rest entries → length entries ≤ filled rest
unfolding filled
entries_filled n [] entries h = omega (arith, ap length h)
entries_filled n ([] ∷ rest) entries h =
    elim h [
      | inl none ↦ entries_filled (suc n) rest entries none.1
      | inr new ↦ absurd (no_entry new.0 new.1 new.4)
    ]
entries_filled n ((x ∷ xs) ∷ rest) entries h =
    elim h [
      | inl none ↦ let e : x ∷ xs ≡ [] = none.0 in absurd cc
      | inr new ↦ omega (arith, entries_filled (suc n) rest new.2 new.5, ap length new.3)
    ]

-- one byte fills one line at most
filled_onto : (x : ℕ) (rest : List Text) → filled (onto_first x rest) ≤ filled rest + 1
unfolding filled
filled_onto x [] = omega arith
filled_onto x ([] ∷ rest) = omega arith
filled_onto x ((y ∷ ys) ∷ rest) = omega arith

filled_lines : (text : Text) → filled (lines text) ≤ length text
unfolding filled
filled_lines [] = omega arith
filled_lines (x ∷ rest) = by (x == 10) refl (filled_lines rest)
  where
    by : (b : Bool) → (x == 10) ≡ b → filled (lines rest) ≤ length rest → filled (lines (x ∷ rest)) ≤ length (x ∷ rest)
    by true ends few = rw ends (omega (arith, few))
    by false goes_on few = rw goes_on (omega (arith, filled_onto x (lines rest), few))

-- where as many entries as bytes are kept none is missing
pub none_missing : (text : Text) (kept : List Entry) (is_cut : Bool)
    → (later : List Entry) × AreEntries 1 (lines text) (kept ++ later) × (is_cut ≡ false → later ≡ []) × (later ≡ [] → is_cut ≡ false)
    → (is_cut ≡ true → length kept ≡ length text) → AreEntries 1 (lines text) kept
none_missing text kept is_cut (later, given, whole, _) full =
    let few : length (kept ++ later) ≤ length text = omega (arith, entries_filled 1 (lines text) (kept ++ later) given, filled_lines text) in
    let none : later ≡ [] =
    elim (cases_Bool is_cut) [
      | inl cut ↦ nil_from_length later (omega (arith, full cut, simp length-append at few))
      | inr not_cut ↦ whole not_cut
    ] in
    subst (AreEntries 1 (lines text)) (ap (λ (es : List Entry). kept ++ es) none ∙ append-nil kept) given
