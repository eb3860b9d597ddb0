-- What reading the parts of a line of a stimulus finds.
-- No reader has to believe it: `proofs/Entries.antt` ties it to `Gives`, and `proofs/Lines.antt` to `AreEntries` and
-- `FirstOther` of `StimulusText.antt`.
use Rattle.std.specs.Prelude.{◌≡◌, ℕ, ◌<◌, ◌≤◌, ◌^◌, List, [], ◌∷◌, ◌++◌, ◌⊎◌, length, Bool, true}
use Rattle.std.specs.Fmt.{decimal}
use Rattle.syntax.specs.Lists.{Every}
use Rattle.syntax.specs.Texts.{Text}
use Rattle.elaborate.specs.internal.CutAt.{StartsWith}
use Rattle.elaborate.specs.StimulusText.{numbers_text, given_text, IsWithin, Gives}
use Rattle.elaborate.specs.declared.stimulus.Given.{Given}
use Rattle.elaborate.specs.declared.stimulus.Entry.{Entry}

-- the text is a space, the number n, and `after`, which does not go on with the number
abbrev pub ReadsNext : Text → ℕ → Text → Type 0
ReadsNext text n after = (n < 2 ^ 64) × (32 ∷ (decimal n ++ after) ≡ text) × StartsWith 32 after

-- no space and number stand at the start of the text
abbrev pub BeginsNoNumber : Text → Type 0
BeginsNoNumber text = (n : ℕ) (after : Text) → ReadsNext text n after → ⊥

-- the text is the numbers, each behind a space
abbrev pub ReadsNumbers : Text → List ℕ → Type 0
ReadsNumbers text ns = (numbers_text ns ≡ text) × Every (λ n. n < 2 ^ 64) ns

-- the text is some numbers, each behind a space
abbrev pub IsNumbers : Text → Type 0
IsNumbers text = (ns : List ℕ) × ReadsNumbers text ns

-- the text is no numbers, each behind a space
abbrev pub IsNoNumbers : Text → Type 0
IsNoNumbers text = (ns : List ℕ) → ReadsNumbers text ns → ⊥

-- the text is what is given
abbrev pub ReadsGiven : Text → Given → Type 0
ReadsGiven text given = IsWithin given × (given_text given ≡ text)

-- the text gives something
abbrev pub IsGiven : Text → Type 0
IsGiven text = (given : Given) × ReadsGiven text given

-- the text gives nothing
abbrev pub IsNoGiven : Text → Type 0
IsNoGiven text = (given : Given) → ReadsGiven text given → ⊥

-- the line gives a port something
abbrev pub IsEntry : Text → Type 0
IsEntry line = (name : Text) × (given : Given) × Gives line name given

-- the line gives no port anything
abbrev pub IsNoEntry : Text → Type 0
IsNoEntry line = (name : Text) (given : Given) → Gives line name given → ⊥

-- line n is empty and adds nothing, or its entry is added
abbrev pub IsAdded : ℕ → Text → List Entry → List Entry → Type 0
IsAdded n line before after =
    ((line ≡ []) × (after ≡ before))
    ⊎ ((name : Text) × (given : Given) × Gives line name given
    × (after ≡ before ++ record { line = n; name = name; given = given } ∷ []))

-- line n is passed by a reader that keeps `most` entries: its entry is added where fewer are kept, else it may be
-- empty, or its entry is missing from then on
abbrev pub IsPassed : ℕ → ℕ → Text → List Entry → Bool → List Entry → Bool → Type 0
IsPassed most n line before was_cut after is_cut =
    ((length before < most) × (is_cut ≡ was_cut) × IsAdded n line before after)
    ⊎ (most ≤ length before) × (after ≡ before) × (line ≡ []) × (is_cut ≡ was_cut)
    ⊎ (most ≤ length before) × (after ≡ before) × IsEntry line × (is_cut ≡ true)
