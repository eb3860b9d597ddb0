-- The uses of variables in the parts of a command, as the definition of the rule on sharing has those of a whole one.
use Rattle.std.specs.Prelude.{ℕ, ◌+◌, List, [], ◌∷◌, ◌++◌, Bool, Option, None, Some}
use Rattle.address.specs.declared.Entry.{Entry}
use Rattle.address.specs.declared.Entry.TheVariants.{Ordered}
use Rattle.system.specs.declared.command.Arm.{Arm}
use Rattle.system.specs.declared.command.Guarded.{Guarded}
use Rattle.system.specs.declared.command.Labelled.{Labelled}
use Rattle.system.specs.declared.command.Action.TheFolds.{fold-Arm, fold-Guarded, fold-Labelled}
use Rattle.sharing_check.specs.Uses.{VariableUse, behind, uses_layer, arm_uses, command_uses, guarded_uses, labelled_uses}

-- a use of a variable at a place
abbrev pub placed : List Entry → ℕ → ℕ → Bool → VariableUse
placed way number at is_write = record { place = way; variable = number; offset = at; writes = is_write }

-- an arm of `select` or `arbitrate`
abbrev pub uses_of_arm : Arm → List VariableUse
uses_of_arm =
    fold-Arm (List VariableUse) (List VariableUse) (List VariableUse) (List VariableUse)
    (List VariableUse) uses_layer arm_uses command_uses guarded_uses labelled_uses

-- an arm of `if`
abbrev pub uses_of_guarded : Guarded → List VariableUse
uses_of_guarded =
    fold-Guarded (List VariableUse) (List VariableUse) (List VariableUse) (List VariableUse)
    (List VariableUse) uses_layer arm_uses command_uses guarded_uses labelled_uses

-- an arm of `case`
abbrev pub uses_of_labelled : Labelled → List VariableUse
uses_of_labelled =
    fold-Labelled (List VariableUse) (List VariableUse) (List VariableUse) (List VariableUse)
    (List VariableUse) uses_layer arm_uses command_uses guarded_uses labelled_uses

-- the uses of children from number n on, each behind its entry: `numbered`, as the code counts
abbrev pub from_number : (ℕ → Entry) → ℕ → List (List VariableUse) → List VariableUse
from_number entry n [] = []
from_number entry n (us ∷ rest) = behind (entry n) us ++ from_number entry (n + 1) rest

-- those behind an `else`, which stands behind n arms
abbrev pub of_last : ℕ → Option (List VariableUse) → List VariableUse
of_last n None = []
of_last n (Some us) = behind (Ordered n) us
