-- Where variables are touched in a command and the least offset of a use that clashes, found in one walk.
-- No reader has to believe it: `proofs/AddsCommand.antt` ties what is found to `ClashesAt` of `Refusal.antt`.
use Rattle.std.specs.Prelude.{ℕ, List, [], ◌∷◌, Bool, true, false, Option, None, Some}
use Rattle.system.specs.declared.expression.Use.{Use}
use Rattle.system.specs.declared.expression.Expression.{Expression}
use Rattle.system.specs.declared.expression.Expression.TheOpen.{Expression-F}
use Rattle.system.specs.declared.expression.Expression.TheFolds.{fold-Expression}
use Rattle.system.specs.declared.system.Variable.{Variable}
use Rattle.system.specs.declared.command.Arm.{Arm}
use Rattle.system.specs.declared.command.Command.{Command}
use Rattle.system.specs.declared.command.Guarded.{Guarded}
use Rattle.system.specs.declared.command.Labelled.{Labelled}
use Rattle.system.specs.declared.command.Action.TheOpen.{Action-F, Arm-F, Command-F, Guarded-F, Labelled-F}
use Rattle.system.specs.declared.command.Action.TheFolds.{fold-Command, fold-Arm, fold-Guarded, fold-Labelled}
use Rattle.sharing_check.specs.internal.Crossing.{Table, touched_here, with_touched, noted_all, least_with, larger, smaller}

-- what is found so far
pub record Gathered : Type 0 where
  -- where variables are touched
  pub touched : Table
  -- the least offset of a use that clashes
  pub least : Option ℕ

abbrev pub gathered : Table → Option ℕ → Gathered
gathered touched least = record { touched = touched; least = least }

-- what is found with a part more
abbrev pub Gathers : Type 0
Gathers = Gathered → Gathered

-- a use of a variable
abbrev pub mentioned : Use → Bool → Gathers
mentioned x w g = gathered (with_touched g.touched x.number (touched_here x.offset w)) g.least

-- two tables as one: what the smaller has is added to the larger
abbrev pub in_one : Table → Table → Table
in_one a b = noted_all (smaller a b) (larger a b)

-- with what was touched before
abbrev pub put_back : Table → Gathers
put_back earlier g = gathered (in_one g.touched earlier) g.least

-- with what the branches before this one touched, and the clashes between them and this one
abbrev pub joined : List Variable → Table → Gathers
joined variables earlier g =
    gathered
    (in_one g.touched earlier)
    (least_with variables (smaller g.touched earlier) (larger g.touched earlier) g.least)

-- one layer of an expression
abbrev pub reading_layer : Expression-F Gathers → Gathers
reading_layer (Expression-F.Constant v) g = g
reading_layer (Expression-F.Variable x w) g = mentioned x false g
reading_layer (Expression-F.Received c w) g = g
reading_layer (Expression-F.Binary op a b) g = b (a g)
reading_layer (Expression-F.Not a) g = a g
reading_layer (Expression-F.Cast a w) g = a g

-- what an expression reads
abbrev pub reading : Expression → Gathers
reading = fold-Expression Gathers reading_layer

-- parts one after another
abbrev pub in_turn : List Gathers → Gathers
in_turn [] g = g
in_turn (f ∷ fs) g = in_turn fs (f g)

-- what stands behind an `else`
abbrev pub then_last : Option Gathers → Gathers
then_last None g = g
then_last (Some f) g = f g

-- a branch of a parallel, behind those before it
abbrev pub beside : List Variable → Gathers → Gathers
beside variables f g = joined variables g.touched (f (gathered [] g.least))

-- branches, each behind those before it
abbrev pub all_beside : List Variable → List Gathers → Gathers
all_beside variables [] g = g
all_beside variables (f ∷ fs) g = all_beside variables fs (beside variables f g)

-- the branches of a parallel
abbrev pub side_by_side : List Variable → List Gathers → Gathers
side_by_side variables fs g = put_back g.touched (all_beside variables fs (gathered [] g.least))

-- one layer of a command, one line a form
abbrev pub gathering_layer : List Variable → Action-F Gathers Gathers Gathers Gathers Gathers → Gathers
gathering_layer variables Action-F.Continue g = g
gathering_layer variables Action-F.Halt g = g
gathering_layer variables (Action-F.Assign x w e) g = reading e (mentioned x true g)
gathering_layer variables (Action-F.Send c w e) g = reading e g
gathering_layer variables (Action-F.Receive c x) g = mentioned x true g
gathering_layer variables (Action-F.Sync c) g = g
gathering_layer variables (Action-F.Loop body) g = body g
gathering_layer variables (Action-F.While e body) g = body (reading e g)
gathering_layer variables (Action-F.If arms last) g = then_last last (in_turn arms g)
gathering_layer variables (Action-F.Case e arms last) g = then_last last (in_turn arms (reading e g))
gathering_layer variables (Action-F.Input c body) g = body g
gathering_layer variables (Action-F.Select arms) g = in_turn arms g
gathering_layer variables (Action-F.Arbitrate arms) g = in_turn arms g
gathering_layer variables (Action-F.Sequence children) g = in_turn children g
gathering_layer variables (Action-F.Parallel children) g = side_by_side variables children g

abbrev pub arm_layer : Arm-F Gathers Gathers Gathers Gathers Gathers → Gathers
arm_layer a g = a.body g

abbrev pub command_layer : Command-F Gathers Gathers Gathers Gathers Gathers → Gathers
command_layer c g = c.action g

abbrev pub guarded_layer : Guarded-F Gathers Gathers Gathers Gathers Gathers → Gathers
guarded_layer a g = a.body (reading a.guard g)

abbrev pub labelled_layer : Labelled-F Gathers Gathers Gathers Gathers Gathers → Gathers
labelled_layer a g = a.body g

-- a command
abbrev pub gathering : List Variable → Command → Gathers
gathering variables =
    fold-Command Gathers Gathers Gathers Gathers Gathers
    (gathering_layer variables) arm_layer command_layer guarded_layer labelled_layer

-- an arm of `select` or `arbitrate`
abbrev pub gathering_arm : List Variable → Arm → Gathers
gathering_arm variables =
    fold-Arm Gathers Gathers Gathers Gathers Gathers
    (gathering_layer variables) arm_layer command_layer guarded_layer labelled_layer

-- an arm of `if`
abbrev pub gathering_guarded : List Variable → Guarded → Gathers
gathering_guarded variables =
    fold-Guarded Gathers Gathers Gathers Gathers Gathers
    (gathering_layer variables) arm_layer command_layer guarded_layer labelled_layer

-- an arm of `case`
abbrev pub gathering_labelled : List Variable → Labelled → Gathers
gathering_labelled variables =
    fold-Labelled Gathers Gathers Gathers Gathers Gathers
    (gathering_layer variables) arm_layer command_layer guarded_layer labelled_layer
