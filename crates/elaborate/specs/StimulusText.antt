-- The lines of a stimulus: which it may have, and what each gives.
use Rattle.std.specs.Prelude.{◌≡◌, ℕ, suc, ◌<◌, ◌≤◌, ◌^◌, List, [], ◌∷◌, ◌++◌, IsTrue, ◌⊎◌}
use Rattle.std.specs.Fmt.{decimal}
use Rattle.syntax.specs.Lists.{Every}
use Rattle.syntax.specs.Texts.{Text}
use Rattle.lexer.specs.Names.{is_name}
use Rattle.elaborate.specs.declared.stimulus.Given.{Given}
use Rattle.elaborate.specs.declared.stimulus.Given.TheVariants.{Values, Syncs}
use Rattle.elaborate.specs.declared.stimulus.Entry.{Entry}

-- numbers in decimal, each behind a space
abbrev pub numbers_text : List ℕ → Text
numbers_text [] = []
numbers_text (n ∷ ns) = 32 ∷ (decimal n ++ numbers_text ns)

-- what stands behind the name: ` =` and the values, or ` * ` and how many handshakes
abbrev pub given_text : Given → Text
given_text (Values ns) = 32 ∷ 61 ∷ numbers_text ns
given_text (Syncs n) = 32 ∷ 42 ∷ 32 ∷ decimal n

-- values are below 2^64, and handshakes at most 65,536
abbrev pub IsWithin : Given → Type 0
IsWithin (Values ns) = Every (λ n. n < 2 ^ 64) ns
IsWithin (Syncs n) = n ≤ 65536

-- the line gives the port of this name this
abbrev pub Gives : Text → Text → Given → Type 0
Gives line name given = IsTrue (is_name name) × IsWithin given × (line ≡ name ++ given_text given)

-- the line is empty or gives something
abbrev pub HasForm : Text → Type 0
HasForm line = (line ≡ []) ⊎ ((name : Text) × (given : Given) × Gives line name given)

-- the entries are those of the lines, of which the first is line n
abbrev pub AreEntries : ℕ → List Text → List Entry → Type 0
AreEntries n [] entries = entries ≡ []
AreEntries n (line ∷ rest) entries =
    ((line ≡ []) × AreEntries (suc n) rest entries)
    ⊎ ((name : Text) × (given : Given) × (more : List Entry)
    × (entries ≡ record { line = n; name = name; given = given } ∷ more)
    × Gives line name given × AreEntries (suc n) rest more)

-- line m is the first that has no form, where the first of the lines is line n
abbrev pub FirstOther : ℕ → List Text → ℕ → Type 0
FirstOther n [] m = ⊥
FirstOther n (line ∷ rest) m = ((m ≡ n) × ¬ HasForm line) ⊎ (HasForm line × FirstOther (suc n) rest m)
