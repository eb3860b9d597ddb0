-- The first entries of a text, of which some may be missing behind them.
use Rattle.std.proofs.Common.{◌≡◌, ℕ, ◌+◌, ◌<◌, ◌≤◌, List, [], ◌∷◌, ◌++◌, length, take, drop, true, false, refl, ap, sym, ◌∙◌, subst, inl, inr, append_assoc, arith, Bool}
use Rattle.std.proofs.lemmas.Bool.{false≢true}
use Rattle.std.proofs.lemmas.List.{append-nil, length-append}
use Rattle.syntax.specs.Texts.{Text, lines}
use Rattle.elaborate.specs.StimulusText.{AreEntries}
use Rattle.elaborate.specs.internal.CutAt.{IsBefore}
use Rattle.elaborate.specs.internal.LineParts.{IsAdded, IsEntry, IsPassed}
use Rattle.elaborate.specs.declared.stimulus.Entry.{Entry}
use Rattle.elaborate.proofs.Lines.{Progress, progress_start, progress_more, progress_end}

-- the entries kept, behind which `later` are missing
pub record Kept (text : Text) (n : ℕ) (kept : List Entry) (is_cut : Bool) (rest : Text) : Type 0 where
  pub later : List Entry
  pub passed : Progress text n (kept ++ later) rest
  pub whole : is_cut ≡ false → later ≡ []
  pub none_missing : later ≡ [] → is_cut ≡ false

pub kept_start : (text : Text) → Kept text 1 [] false text
kept_start text = record { later = []; passed = progress_start text; whole = λ h. refl; none_missing = λ h. refl }

-- what a line adds to the entries before it adds behind more of them
added_behind : (n : ℕ) (line : Text) (before after : List Entry) → IsAdded n line before after → IsAdded n line (before ++ []) (after ++ [])
added_behind n line before after h = rw (append-nil before, append-nil after) h

-- a line is passed whose entry is kept
kept_added : (text : Text) (n : ℕ) (before after : List Entry) (was_cut is_cut : Bool) (rest : Text) (count : ℕ) → Kept text n before was_cut rest
    → IsBefore 10 rest count → 0 < length rest → was_cut ≡ false → is_cut ≡ was_cut → IsAdded n (take count rest) before after
    → Kept text (n + 1) after is_cut (drop 1 (drop count rest))
kept_added text n before after was_cut is_cut rest count k cut some whole same added =
    let none : k.later ≡ [] = k.whole whole in
    let passed : Progress text n (before ++ []) rest = subst (λ later. Progress text n (before ++ later) rest) none k.passed in
    record {
      later = [];
      passed = progress_more text n (before ++ []) rest count (after ++ []) passed cut some (added_behind n (take count rest) before after added);
      whole = λ h. refl;
      none_missing = λ h. same ∙ whole;
    }

-- a line is passed whose entry is missing
kept_missed : (text : Text) (n : ℕ) (kept after : List Entry) (was_cut is_cut : Bool) (rest : Text) (count : ℕ) → Kept text n kept was_cut rest
    → IsBefore 10 rest count → 0 < length rest → after ≡ kept → IsEntry (take count rest) → is_cut ≡ true
    → Kept text (n + 1) after is_cut (drop 1 (drop count rest))
kept_missed text n kept after was_cut is_cut rest count k cut some same given cut_now =
    let found = kept ++ k.later in
    let new : List Entry = record { line = n; name = given.0; given = given.1 } ∷ [] in
    let passed : Progress text (n + 1) (found ++ new) (drop 1 (drop count rest)) =
    progress_more text n found rest count (found ++ new) k.passed cut some (inr (given.0, given.1, given.2, refl)) in
    let same_found : found ++ new ≡ after ++ (k.later ++ new) = append_assoc kept k.later new ∙ ap (λ es. es ++ (k.later ++ new)) (sym same) in
    record {
      later = k.later ++ new;
      passed = subst (λ es. Progress text (n + 1) es (drop 1 (drop count rest))) same_found passed;
      whole = λ h. absurd (false≢true (sym h ∙ cut_now));
      none_missing = λ h. absurd (omega (arith, simp length-append at (ap length h)));
    }

-- an empty line is passed
kept_empty : (text : Text) (n : ℕ) (kept after : List Entry) (was_cut is_cut : Bool) (rest : Text) (count : ℕ) → Kept text n kept was_cut rest
    → IsBefore 10 rest count → 0 < length rest → after ≡ kept → take count rest ≡ [] → is_cut ≡ was_cut
    → Kept text (n + 1) after is_cut (drop 1 (drop count rest))
kept_empty text n kept after was_cut is_cut rest count k cut some same none cut_same =
    record {
      later = k.later;
      passed = progress_more text n (kept ++ k.later) rest count (after ++ k.later) k.passed cut some (inl (none, ap (λ es. es ++ k.later) same));
      whole = λ h. k.whole (sym cut_same ∙ h);
      none_missing = λ h. cut_same ∙ k.none_missing h;
    }

-- a line is passed
pub kept_more : (text : Text) (n most : ℕ) (before after : List Entry) (was_cut is_cut : Bool) (rest : Text) (count : ℕ)
    → Kept text n before was_cut rest → (was_cut ≡ true → length before ≡ most) → IsBefore 10 rest count → 0 < length rest
    → IsPassed most n (take count rest) before was_cut after is_cut
    → Kept text (n + 1) after is_cut (drop 1 (drop count rest))
kept_more text n most before after was_cut is_cut rest count k full cut some passed =
    elim passed [
      | inl added ↦ kept_added text n before after was_cut is_cut rest count k cut some (not_full was_cut full added.0) added.1 added.2
      | inr passed_full ↦ elim passed_full [
        | inl empty ↦ kept_empty text n before after was_cut is_cut rest count k cut some empty.1 empty.2 empty.3
        | inr missed ↦ kept_missed text n before after was_cut is_cut rest count k cut some missed.1 missed.2 missed.3
      ]
    ]
  where
    not_full : (b : Bool) → (b ≡ true → length before ≡ most) → length before < most → b ≡ false
    not_full false at few = refl
    not_full true at few = absurd (omega (arith, at refl, few))

-- a line adds one entry at most
added_few : (n : ℕ) (line : Text) (before after : List Entry) → IsAdded n line before after → length after ≤ length before + 1
added_few n line before after h =
    elim h [ inl none ↦ omega (arith, ap length none.1) | inr new ↦ omega (arith, simp length-append at (ap length new.3)) ]

-- at most so many are kept
pub few_more : (n most : ℕ) (line : Text) (before after : List Entry) (was_cut is_cut : Bool) → length before ≤ most
    → IsPassed most n line before was_cut after is_cut → length after ≤ most
few_more n most line before after was_cut is_cut few passed =
    elim passed [
      | inl added ↦ omega (arith, added_few n line before after added.2, added.0)
      | inr full ↦ elim full [ inl empty ↦ omega (arith, ap length empty.1, few) | inr missed ↦ omega (arith, ap length missed.1, few) ]
    ]

-- and so many where some are missing
pub full_more : (n most : ℕ) (line : Text) (before after : List Entry) (was_cut is_cut : Bool) → length before ≤ most
    → (was_cut ≡ true → length before ≡ most) → IsPassed most n line before was_cut after is_cut → is_cut ≡ true → length after ≡ most
full_more n most line before after was_cut is_cut few at passed cut =
    elim passed [
      | inl added ↦ absurd (omega (arith, at (sym added.1 ∙ cut), added.0))
      | inr full ↦ elim full [
        | inl empty ↦ omega (arith, ap length empty.1, few, empty.0)
        | inr missed ↦ omega (arith, ap length missed.1, few, missed.0)
      ]
    ]

-- at the end all are read
pub kept_end : (text : Text) (n : ℕ) (kept : List Entry) (is_cut : Bool) (rest : Text) → Kept text n kept is_cut rest → rest ≡ []
    → (later : List Entry) × AreEntries 1 (lines text) (kept ++ later) × (is_cut ≡ false → later ≡ []) × (later ≡ [] → is_cut ≡ false)
kept_end text n kept is_cut rest k none = (k.later, progress_end text n (kept ++ k.later) rest k.passed none, k.whole, k.none_missing)
