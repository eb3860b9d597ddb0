-- The lines on which commands begin.
use Rattle.std.specs.Prelude.{ℕ, ◌==◌, ◌||◌, List, [], ◌∷◌, Bool, false, Option, None, Some}
use Rattle.system.specs.declared.command.Command.{Command}
use Rattle.system.specs.declared.command.Action.TheOpen.{Action-F, Arm-F, Command-F, Guarded-F, Labelled-F}
use Rattle.system.specs.declared.command.Action.TheFolds.{fold-Command}

-- whether one of them does, or one before them
abbrev pub any_onto : Bool → List Bool → Bool
any_onto found [] = found
any_onto found (b ∷ bs) = any_onto (found || b) bs

-- whether what stands behind an `else` does
abbrev pub last_of : Option Bool → Bool
last_of None = false
last_of (Some b) = b

-- whether a command within an action has the line, one line a form
abbrev pub begun_layer : Action-F Bool Bool Bool Bool Bool → Bool
begun_layer Action-F.Continue = false
begun_layer Action-F.Halt = false
begun_layer (Action-F.Assign x w e) = false
begun_layer (Action-F.Send c w e) = false
begun_layer (Action-F.Receive c x) = false
begun_layer (Action-F.Sync c) = false
begun_layer (Action-F.Loop body) = body
begun_layer (Action-F.While e body) = body
begun_layer (Action-F.If arms last) = any_onto false arms || last_of last
begun_layer (Action-F.Case e arms last) = any_onto false arms || last_of last
begun_layer (Action-F.Input c body) = body
begun_layer (Action-F.Select arms) = any_onto false arms
begun_layer (Action-F.Arbitrate arms) = any_onto false arms
begun_layer (Action-F.Sequence children) = any_onto false children
begun_layer (Action-F.Parallel children) = any_onto false children

abbrev pub begun_arm : Arm-F Bool Bool Bool Bool Bool → Bool
begun_arm a = a.body

-- a command: its own line, or one within it
abbrev pub begun_command : ℕ → Command-F Bool Bool Bool Bool Bool → Bool
begun_command line c = (c.line == line) || c.action

abbrev pub begun_guarded : Guarded-F Bool Bool Bool Bool Bool → Bool
begun_guarded a = a.body

abbrev pub begun_labelled : Labelled-F Bool Bool Bool Bool Bool → Bool
begun_labelled a = a.body

-- whether a command, or one within it, has the line
abbrev pub begins : ℕ → Command → Bool
begins line =
    fold-Command Bool Bool Bool Bool Bool begun_layer begun_arm (begun_command line) begun_guarded begun_labelled
