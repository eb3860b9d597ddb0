-- What may stand behind the keyword of a line.
use Rattle.std.specs.Prelude.{ℕ, ◌≡◌, ◌≢◌, ◌<◌, ◌^◌, ◌⊎◌, Some, List, [], ◌++◌}
use Rattle.std.specs.Fmt.{decimal}
use Rattle.address.specs.Text.{text_of}
use Rattle.address.specs.Reading.{NumbersFit}
use Rattle.system.specs.declared.system.System.{System}
use Rattle.system.specs.Named.{variable_from}
use Rattle.runs.specs.declared.event.Choice.{Choice}
use Rattle.line_text.specs.EventText.{field}
use Rattle.line_text.specs.Fields.{CutAtSpace}

-- a space and this number, which has 64 bits
abbrev pub IsNumber : ℕ → List ℕ → Type 0
IsNumber n rest = (n < 2 ^ 64) × (rest ≡ field (decimal n))

-- a space and this number of a branch, which has 32 bits
abbrev pub IsBranch : ℕ → List ℕ → Type 0
IsBranch k rest = (k < 2 ^ 32) × (rest ≡ field (decimal k))

-- a space and the name of the variable of this number, the first with that name; the number has 32 bits
abbrev pub IsVariable : System → ℕ → List ℕ → Type 0
IsVariable system x rest = (name : List ℕ) × (rest ≡ field name) × (variable_from 0 system.variables name ≡ Some x)

-- nothing, which stands for arm 0, or a space and the arm, which has 32 bits
abbrev pub IsArm : ℕ → List ℕ → Type 0
IsArm arm rest = ((rest ≡ []) × (arm ≡ 0)) ⊎ ((rest ≡ field (decimal arm)) × (arm < 2 ^ 32))

-- a space and a place other than the root, whose numbers have 32 bits, and then the arm
abbrev pub IsChoice : Choice → List ℕ → Type 0
IsChoice c rest =
    (c.place ≢ []) × NumbersFit c.place × ((arm : List ℕ) × (rest ≡ field (text_of c.place) ++ arm) × IsArm c.arm arm)

-- a space, a text that may be a place, and an arm: only with this behind it does a line take memory to be read
abbrev pub MayBeChoice : List ℕ → Type 0
MayBeChoice rest =
    (text : List ℕ) × (place : List ℕ) × (arm : List ℕ)
    × (rest ≡ field text) × CutAtSpace text place arm × (place ≢ []) × ((n : ℕ) × IsArm n arm)
