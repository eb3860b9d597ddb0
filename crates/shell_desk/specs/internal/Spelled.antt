-- How the word of a text is found.
-- No reader has to believe it: `proofs/WordLemmas.antt` ties it to `spelling` of `Words.antt`.
use Rattle.std.specs.Prelude.{ℕ, List, [], ◌∷◌, Option, Some, None, if◌then◌else◌}
use Rattle.std.specs.Str.{bytes_eq}
use Rattle.shell_desk.specs.declared.word.Word.{Word}
use Rattle.shell_desk.specs.Words.{spelling}

-- the first of these words that is spelled so
abbrev pub first_spelled : List Word → List ℕ → Option Word
first_spelled [] text = None
first_spelled (word ∷ words) text =
    if bytes_eq (spelling word) text then Some word else first_spelled words text
