-- How what is told of a fault begins: with the name of the text, the line and the column of the fault, and what is
-- wrong.
use Rattle.std.specs.Prelude.{◌≡◌, ℕ, ◌+◌, List, [], ◌∷◌, ◌++◌, codes, decimal}
use Rattle.source_places.specs.Places.{BeginsLine, characters, ends_before, within}

-- the name of a text, a line of it and a column in that, and what is said of it
abbrev pub head : List ℕ → ℕ → ℕ → List ℕ → List ℕ
head name line column what =
    name ++ codes ":" ++ decimal line ++ codes ":" ++ decimal column ++ codes ": " ++ what ++ codes "\n"

-- the first line tells the place of the byte at the offset: its line counts those that end before it, from 1, and its
-- column the characters of that line before it, from 1
abbrev pub IsHead : List ℕ → List ℕ → ℕ → List ℕ → List ℕ → Type 0
IsHead name source offset what told =
    (start : ℕ) × BeginsLine source (within source offset) start
    × (told ≡ head name (ends_before source (within source offset) + 1)
    (characters source start (within source offset) + 1) what)

-- what is told begins with such a line
abbrev pub TellsPlace : List ℕ → List ℕ → ℕ → List ℕ → List ℕ → Type 0
TellsPlace name source offset what told =
    (first : List ℕ) × (rest : List ℕ) × IsHead name source offset what first × (told ≡ first ++ rest)
