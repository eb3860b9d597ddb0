-- How the keyword of a text is found.
-- No reader has to believe it: `proofs/public/KeywordLemmas.antt` ties it to `spelling` of `Keywords.antt`.
use Rattle.std.specs.Prelude.{◌≡◌, ℕ, List, [], ◌∷◌, Option, Some, None, if◌then◌else◌}
use Rattle.std.specs.Str.{bytes_eq}
use Rattle.line_text.specs.declared.keyword.Keyword.{Keyword}
use Rattle.line_text.specs.Keywords.{spelling}

-- the first of these keywords that is spelled so
abbrev pub first_spelled : List Keyword → List ℕ → Option Keyword
first_spelled [] text = None
first_spelled (keyword ∷ keywords) text =
    if bytes_eq (spelling keyword) text then Some keyword else first_spelled keywords text

-- the text spells no keyword
abbrev pub SpellsNothing : List ℕ → Type 0
SpellsNothing text = (keyword : Keyword) → spelling keyword ≡ text → ⊥
