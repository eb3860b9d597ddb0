-- The lines of a text one after another.
use Rattle.std.proofs.Common.{◌≡◌, ℕ, ◌+◌, ◌<◌, ◌≤◌, ◌==◌, List, [], ◌∷◌, ◌++◌, length, take, drop, refl, ap, sym, ◌∙◌, subst, true, false, arith, inl, inr, append_assoc, eq-eqb, ne_eqb, length-drop, add-one}
use Rattle.std.specs.List.{onto_first}
use Rattle.std.proofs.lemmas.List.{take-append-drop, append-nil}
use Rattle.elaborate.specs.internal.CutAt.{Lacks, StartsWith, IsBefore}
use Rattle.syntax.specs.Texts.{Text, lines}
use Rattle.elaborate.specs.StimulusText.{Gives, HasForm, AreEntries, FirstOther}
use Rattle.elaborate.specs.internal.LineParts.{IsAdded}
use Rattle.elaborate.specs.declared.stimulus.Given.{Given}
use Rattle.elaborate.specs.declared.stimulus.Entry.{Entry}

-- the first line and what stands behind its end
lines_at : (y : ℕ) (r : Text) → y ≡ 10 → lines (y ∷ r) ≡ [] ∷ lines r
lines_at y r e = let t : (y == 10) ≡ true = eq-eqb y 10 e in rw t

lines_on : (x : ℕ) (r : Text) → (x ≡ 10 → ⊥) → lines (x ∷ r) ≡ onto_first x (lines r)
lines_on x r n = let t : (x == 10) ≡ false = ne_eqb x 10 n in rw t

lines_cut : (xs u : Text) → Lacks 10 xs → StartsWith 10 u → (xs ++ u ≡ [] → ⊥) → lines (xs ++ u) ≡ xs ∷ lines (drop 1 u)
lines_cut [] [] h k some = absurd (some refl)
lines_cut [] (y ∷ r) h k some = lines_at y r k
lines_cut (x ∷ []) [] h k some = lines_on x [] h.0
lines_cut (x ∷ []) (y ∷ r) h k some = lines_on x (y ∷ r) h.0 ∙ ap (onto_first x) (lines_at y r k)
lines_cut (x ∷ z ∷ zs) u h k some =
    lines_on x (z ∷ zs ++ u) h.0 ∙ ap (onto_first x) (lines_cut (z ∷ zs) u h.1 k (λ e. let f : z ∷ (zs ++ u) ≡ [] = e in cc))

pub lines_step : (rest : Text) (count : ℕ) → IsBefore 10 rest count → (rest ≡ [] → ⊥)
    → lines rest ≡ take count rest ∷ lines (drop 1 (drop count rest))
lines_step rest count before some =
    let whole = take-append-drop count rest in
    ap lines (sym whole)
    ∙ lines_cut (take count rest) (drop count rest) before.1 before.2 (λ e. some (sym whole ∙ e))

-- what is read of a stimulus so far, line n being the next
pub record Progress (text : Text) (n : ℕ) (found : List Entry) (rest : Text) : Type 0 where
  pub entries : (more : List Entry) → AreEntries n (lines rest) more → AreEntries 1 (lines text) (found ++ more)
  pub other : (m : ℕ) → FirstOther n (lines rest) m → FirstOther 1 (lines text) m
  pub count : n + length rest ≤ length text + 1

pub progress_start : (text : Text) → Progress text 1 [] text
progress_start text = record { entries = λ more h. h; other = λ m h. h; count = omega arith }

-- less is left behind a line
pub less_left : (rest : Text) (count : ℕ) → 0 < length rest → length (drop 1 (drop count rest)) + 1 ≤ length rest
less_left rest count some = omega (arith, length-drop 1 (drop count rest), length-drop count rest)

-- an empty line is passed
progress_empty : (text : Text) (n : ℕ) (found : List Entry) (rest : Text) (count : ℕ) → Progress text n found rest
    → IsBefore 10 rest count → 0 < length rest → take count rest ≡ [] → Progress text (n + 1) found (drop 1 (drop count rest))
progress_empty text n found rest count p before some none =
    let nonempty : rest ≡ [] → ⊥ = λ e. omega (arith, ap length e, some) in
    let step = lines_step rest count before nonempty in
    record {
      entries = λ more h. p.entries more
          (subst (λ ls. AreEntries n ls more) (sym step) (inl (none, subst (λ m. AreEntries m (lines (drop 1 (drop count rest))) more) (add-one n) h)));
      other = λ m h. p.other m
          (subst (λ ls. FirstOther n ls m) (sym step) (inr (inl none, subst (λ k. FirstOther k (lines (drop 1 (drop count rest))) m) (add-one n) h)));
      count = omega (arith, p.count, less_left rest count some);
    }

-- a line that gives something is passed
progress_entry : (text : Text) (n : ℕ) (found : List Entry) (rest : Text) (count : ℕ) (name : Text) (given : Given)
    → Progress text n found rest → IsBefore 10 rest count → 0 < length rest → Gives (take count rest) name given
    → Progress text (n + 1) (found ++ record { line = n; name = name; given = given } ∷ []) (drop 1 (drop count rest))
progress_entry text n found rest count name given p before some gives =
    let nonempty : rest ≡ [] → ⊥ = λ e. omega (arith, ap length e, some) in
    let step = lines_step rest count before nonempty in
    let entry : Entry = record { line = n; name = name; given = given } in
    record {
      entries = λ more h. subst (AreEntries 1 (lines text)) (sym (append_assoc found (entry ∷ []) more))
          (p.entries (entry ∷ more)
          (subst (λ ls. AreEntries n ls (entry ∷ more)) (sym step)
          (inr (name, given, more, refl, gives, subst (λ m. AreEntries m (lines (drop 1 (drop count rest))) more) (add-one n) h))));
      other = λ m h. p.other m
          (subst (λ ls. FirstOther n ls m) (sym step)
          (inr (inr (name, given, gives), subst (λ k. FirstOther k (lines (drop 1 (drop count rest))) m) (add-one n) h)));
      count = omega (arith, p.count, less_left rest count some);
    }

-- a line is passed
pub progress_more : (text : Text) (n : ℕ) (found : List Entry) (rest : Text) (count : ℕ) (after : List Entry) → Progress text n found rest
    → IsBefore 10 rest count → 0 < length rest → IsAdded n (take count rest) found after
    → Progress text (n + 1) after (drop 1 (drop count rest))
progress_more text n found rest count after p before some added =
    elim added [
      | inl none ↦ subst (λ es. Progress text (n + 1) es (drop 1 (drop count rest))) (sym none.1)
          (progress_empty text n found rest count p before some none.0)
      | inr new ↦ subst (λ es. Progress text (n + 1) es (drop 1 (drop count rest))) (sym new.3)
          (progress_entry text n found rest count new.0 new.1 p before some new.2)
    ]

-- a line of another form is the first
pub progress_other : (text : Text) (n : ℕ) (found : List Entry) (rest : Text) (count : ℕ) → Progress text n found rest
    → IsBefore 10 rest count → 0 < length rest → ¬ HasForm (take count rest) → FirstOther 1 (lines text) n
progress_other text n found rest count p before some none =
    let nonempty : rest ≡ [] → ⊥ = λ e. omega (arith, ap length e, some) in
    let step = lines_step rest count before nonempty in
    p.other n (subst (λ ls. FirstOther n ls n) (sym step) (inl (refl, none)))

-- at the end all is read
pub progress_end : (text : Text) (n : ℕ) (found : List Entry) (rest : Text) → Progress text n found rest → rest ≡ []
    → AreEntries 1 (lines text) found
progress_end text n found rest p e =
    subst (AreEntries 1 (lines text)) (append-nil found) (p.entries [] (subst (λ r. AreEntries n (lines r) []) (sym e) refl))
