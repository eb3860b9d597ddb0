-- How many calls stand in a command. (Numbers are cut at the largest one of 64 bits, which no source reaches.)
use Rattle.std.specs.Prelude.{ℕ, ◌+◌, ◌-◌, ◌^◌, min, List, [], ◌∷◌, Option, None, Some}
use Rattle.types.specs.declared.tree.Command.{Command}
use Rattle.types.specs.declared.tree.Action.TheOpen.{Action-F, Arm-F, Command-F, Guarded-F, Labelled-F}
use Rattle.types.specs.declared.tree.Action.TheFolds.{fold-Command}

-- both together
abbrev pub together : ℕ → ℕ → ℕ
together m n = min (m + n) (2 ^ 64 - 1)

-- so many, and those of these parts
abbrev pub with_all : ℕ → List ℕ → ℕ
with_all n [] = n
with_all n (m ∷ ms) = with_all (together n m) ms

-- those of what stands behind an `else`
abbrev pub of_last : Option ℕ → ℕ
of_last None = 0
of_last (Some n) = n

-- those of one layer of a command, one line a form
abbrev pub counts_layer : Action-F ℕ ℕ ℕ ℕ ℕ → ℕ
counts_layer Action-F.Continue = 0
counts_layer Action-F.Halt = 0
counts_layer (Action-F.Assign x w e) = 0
counts_layer (Action-F.Send c w e) = 0
counts_layer (Action-F.Receive c x) = 0
counts_layer (Action-F.Sync c) = 0
counts_layer (Action-F.Loop body) = body
counts_layer (Action-F.While e body) = body
counts_layer (Action-F.If arms last) = together (with_all 0 arms) (of_last last)
counts_layer (Action-F.Case e arms last) = together (with_all 0 arms) (of_last last)
counts_layer (Action-F.Input c body) = body
counts_layer (Action-F.Select arms) = with_all 0 arms
counts_layer (Action-F.Arbitrate arms) = with_all 0 arms
counts_layer (Action-F.Sequence children) = with_all 0 children
counts_layer (Action-F.Parallel children) = with_all 0 children
counts_layer (Action-F.Call p arguments) = 1

abbrev pub counts_arm : Arm-F ℕ ℕ ℕ ℕ ℕ → ℕ
counts_arm a = a.body

abbrev pub counts_command : Command-F ℕ ℕ ℕ ℕ ℕ → ℕ
counts_command c = c.action

abbrev pub counts_guarded : Guarded-F ℕ ℕ ℕ ℕ ℕ → ℕ
counts_guarded a = a.body

abbrev pub counts_labelled : Labelled-F ℕ ℕ ℕ ℕ ℕ → ℕ
counts_labelled a = a.body

-- how many calls stand in the command
abbrev pub calls_in : Command → ℕ
calls_in = fold-Command ℕ ℕ ℕ ℕ ℕ counts_layer counts_arm counts_command counts_guarded counts_labelled
