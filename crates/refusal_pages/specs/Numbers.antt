-- The numbers of all refusals.
use Rattle.std.specs.Prelude.{ℕ, List, [], ◌∷◌, Bool, ◌||◌, false, ◌==◌}

-- those of a source, of a stimulus and of a system
abbrev pub of_sources : List ℕ
of_sources = 1 ∷ 2 ∷ 3 ∷ 4 ∷ 5 ∷ 6 ∷ 7 ∷ 8 ∷ 9 ∷ 10 ∷ 11 ∷ 12 ∷ 13 ∷ 14 ∷ 15 ∷ 16 ∷ 17 ∷ []

-- those that a line of a script is answered with
abbrev pub of_lines : List ℕ
of_lines = 21 ∷ 22 ∷ 23 ∷ 24 ∷ 25 ∷ 26 ∷ 27 ∷ 28 ∷ []

-- those of traces, of files, of a stimulus and of scripts
abbrev pub of_files : List ℕ
of_files = 31 ∷ 32 ∷ 33 ∷ 34 ∷ 41 ∷ 42 ∷ 51 ∷ 61 ∷ []

-- those that a request of an editor is answered with
abbrev pub of_editors : List ℕ
of_editors = 101 ∷ 102 ∷ 103 ∷ 104 ∷ 105 ∷ 106 ∷ 107 ∷ 108 ∷ 109 ∷ 110 ∷ 111 ∷ 113 ∷ []

-- whether a number is among others
abbrev pub among : ℕ → List ℕ → Bool
among n [] = false
among n (m ∷ rest) = (n == m) || among n rest

-- whether a refusal has this number
abbrev pub is_refusal : ℕ → Bool
is_refusal n = among n of_sources || (among n of_lines || (among n of_files || among n of_editors))
