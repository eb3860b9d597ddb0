-- The ends of channels that a command uses: each send, receive, sync and arm with the line of its command, in the order
-- of the source. (Balsa calls the two sides of a handshake its ends; own word for a use in the source.)
use Rattle.std.specs.Prelude.{ℕ, ◌+◌, List, [], ◌∷◌, ◌++◌, Option, None, Some}
use Rattle.system.specs.declared.command.Command.{Command}
use Rattle.system.specs.declared.command.Action.TheOpen.{Action-F, Arm-F, Command-F, Guarded-F, Labelled-F}
use Rattle.system.specs.declared.command.Action.TheFolds.{fold-Command}
use Rattle.outline.specs.declared.ends.End.{End}
use Rattle.outline.specs.declared.ends.Way.{Way}
use Rattle.outline.specs.declared.ends.Way.TheVariants.{Sends, Receives, Syncs, Opens}

-- the ends so far, and more behind them
abbrev pub Onto : Type 0
Onto = List End → List End

-- the same of an action, where this is the line of its command
abbrev pub OnLine : Type 0
OnLine = ℕ → Onto

-- an arm of `select` or `arbitrate`: its channel, and the ends of its body
pub record OfArm : Type 0 where
  pub channel : ℕ
  pub body : Onto

-- one more end
abbrev pub with_end : ℕ → ℕ → Way → Onto
with_end c line way ends = ends ++ record { channel = c; line = Some line; way = way } ∷ []

-- those of several parts, one after another
abbrev pub in_turn : List Onto → Onto
in_turn [] ends = ends
in_turn (f ∷ fs) ends = in_turn fs (f ends)

-- those of what stands behind an `else`
abbrev pub in_last : Option Onto → Onto
in_last None ends = ends
in_last (Some f) ends = f ends

-- those of arms, of which the first has the number k: the end at which it opens, and those of its body
abbrev pub arms_in_turn : ℕ → ℕ → List OfArm → Onto
arms_in_turn line k [] ends = ends
arms_in_turn line k (a ∷ rest) ends = arms_in_turn line (k + 1) rest (a.body (with_end a.channel line (Opens k) ends))

-- one layer of a command, one line a form
abbrev pub ends_layer : Action-F OnLine OfArm Onto Onto Onto → OnLine
ends_layer Action-F.Continue line ends = ends
ends_layer Action-F.Halt line ends = ends
ends_layer (Action-F.Assign x w e) line ends = ends
ends_layer (Action-F.Send c w e) line ends = with_end c.number line Sends ends
ends_layer (Action-F.Receive c x) line ends = with_end c.number line Receives ends
ends_layer (Action-F.Sync c) line ends = with_end c.number line Syncs ends
ends_layer (Action-F.Loop body) line ends = body ends
ends_layer (Action-F.While e body) line ends = body ends
ends_layer (Action-F.If arms last) line ends = in_last last (in_turn arms ends)
ends_layer (Action-F.Case e arms last) line ends = in_last last (in_turn arms ends)
ends_layer (Action-F.Input c body) line ends = body (with_end c.number line (Opens 0) ends)
ends_layer (Action-F.Select arms) line ends = arms_in_turn line 0 arms ends
ends_layer (Action-F.Arbitrate arms) line ends = arms_in_turn line 0 arms ends
ends_layer (Action-F.Sequence children) line ends = in_turn children ends
ends_layer (Action-F.Parallel children) line ends = in_turn children ends

abbrev pub ends_arm : Arm-F OnLine OfArm Onto Onto Onto → OfArm
ends_arm a = record { channel = a.channel.number; body = a.body }

-- a command gives its line to its action
abbrev pub ends_command : Command-F OnLine OfArm Onto Onto Onto → Onto
ends_command c = c.action c.line

abbrev pub ends_guarded : Guarded-F OnLine OfArm Onto Onto Onto → Onto
ends_guarded a = a.body

abbrev pub ends_labelled : Labelled-F OnLine OfArm Onto Onto Onto → Onto
ends_labelled a = a.body

-- the ends so far, and those that the command uses behind them
abbrev pub ends_in : Command → Onto
ends_in = fold-Command OnLine OfArm Onto Onto Onto ends_layer ends_arm ends_command ends_guarded ends_labelled
