-- The calls that stand in the body of a procedure, in the order of the source, by cases on its commands.
use Rattle.std.specs.Prelude.{ℕ, ◌+◌, List, [], ◌∷◌, ◌++◌, Option, None, Some}
use Rattle.address.specs.declared.Entry.{Entry}
use Rattle.address.specs.declared.Entry.TheVariants.{Branch, Ordered}
use Rattle.types.specs.declared.tree.Command.{Command}
use Rattle.types.specs.declared.tree.Action.TheOpen.{Action-F, Arm-F, Command-F, Guarded-F, Labelled-F}
use Rattle.types.specs.declared.tree.Action.TheFolds.{fold-Command}
use Rattle.described.specs.declared.body_calls.BodyCall.{BodyCall}

-- the calls so far, and behind them those of a command that stands at this place
abbrev pub Onto : Type 0
Onto = List Entry → List BodyCall → List BodyCall

-- the same of an action, where this is the line of its command
abbrev pub OnLine : Type 0
OnLine = ℕ → Onto

-- one more call: the body of the procedure stands at the place of the call
abbrev pub with_call : ℕ → ℕ → Onto
with_call line procedure place calls = calls ++ record { place = place; line = line; procedure = procedure } ∷ []

-- those of what stands in a loop, in its first turn, or in an arm
abbrev pub inner : Onto → Onto
inner f place calls = f (place ++ Ordered 1 ∷ []) calls

-- those of arms, one after another
abbrev pub in_turns : List Onto → Onto
in_turns [] place calls = calls
in_turns (f ∷ fs) place calls = in_turns fs place (inner f place calls)

-- those of what stands behind an `else`
abbrev pub in_last : Option Onto → Onto
in_last None place calls = calls
in_last (Some f) place calls = inner f place calls

-- those of the children of a sequence, the first of which has the number n
abbrev pub in_sequence : ℕ → List Onto → Onto
in_sequence n [] place calls = calls
in_sequence n (f ∷ fs) place calls = in_sequence (n + 1) fs place (f (place ++ Ordered n ∷ []) calls)

-- those of branches, the first of which has the number n
abbrev pub in_branches : ℕ → List Onto → Onto
in_branches n [] place calls = calls
in_branches n (f ∷ fs) place calls = in_branches (n + 1) fs place (f (place ++ Branch n ∷ []) calls)

-- one layer of a command, one line a form
abbrev pub calls_layer : Action-F OnLine Onto Onto Onto Onto → OnLine
calls_layer Action-F.Continue line place calls = calls
calls_layer Action-F.Halt line place calls = calls
calls_layer (Action-F.Assign x w e) line place calls = calls
calls_layer (Action-F.Send c w e) line place calls = calls
calls_layer (Action-F.Receive c x) line place calls = calls
calls_layer (Action-F.Sync c) line place calls = calls
calls_layer (Action-F.Loop body) line place calls = inner body place calls
calls_layer (Action-F.While e body) line place calls = inner body place calls
calls_layer (Action-F.If arms last) line place calls = in_last last place (in_turns arms place calls)
calls_layer (Action-F.Case e arms last) line place calls = in_last last place (in_turns arms place calls)
calls_layer (Action-F.Input c body) line place calls = inner body place calls
calls_layer (Action-F.Select arms) line place calls = in_turns arms place calls
calls_layer (Action-F.Arbitrate arms) line place calls = in_turns arms place calls
calls_layer (Action-F.Sequence children) line place calls = in_sequence 0 children place calls
calls_layer (Action-F.Parallel children) line place calls = in_branches 0 children place calls
calls_layer (Action-F.Call p arguments) line place calls = with_call line p place calls

abbrev pub calls_arm : Arm-F OnLine Onto Onto Onto Onto → Onto
calls_arm a = a.body

-- a command gives its line to its action
abbrev pub calls_command : Command-F OnLine Onto Onto Onto Onto → Onto
calls_command c = c.action c.line

abbrev pub calls_guarded : Guarded-F OnLine Onto Onto Onto Onto → Onto
calls_guarded a = a.body

abbrev pub calls_labelled : Labelled-F OnLine Onto Onto Onto Onto → Onto
calls_labelled a = a.body

-- the calls so far, and those of the command behind them
abbrev pub calls_onto : Command → Onto
calls_onto = fold-Command OnLine Onto Onto Onto Onto calls_layer calls_arm calls_command calls_guarded calls_labelled

-- the calls of a body that stands at this place
abbrev pub calls_in : Command → List Entry → List BodyCall
calls_in body place = calls_onto body place []
