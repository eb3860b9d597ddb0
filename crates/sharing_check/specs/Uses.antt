-- The uses of variables in a command: which, where in the source, and where in the tree.
use Rattle.std.specs.Prelude.{ℕ, suc, List, [], ◌∷◌, ◌++◌, Bool, true, false, Option, None, Some, map}
use Rattle.address.specs.declared.Entry.{Entry}
use Rattle.address.specs.declared.Entry.TheVariants.{Ordered, Branch}
use Rattle.system.specs.declared.expression.Use.{Use}
use Rattle.system.specs.declared.expression.Expression.{Expression}
use Rattle.system.specs.declared.expression.Expression.TheOpen.{Expression-F}
use Rattle.system.specs.declared.expression.Expression.TheFolds.{fold-Expression}
use Rattle.system.specs.declared.command.Command.{Command}
use Rattle.system.specs.declared.command.Action.TheOpen.{Action-F, Arm-F, Command-F, Guarded-F, Labelled-F}
use Rattle.system.specs.declared.command.Action.TheFolds.{fold-Command}

-- a use of a variable
pub record VariableUse : Type 0 where
  -- the way to it from the root: a branch number at each parallel, a place at each other composition
  pub place : List Entry
  pub variable : ℕ
  -- where its name stands in the source
  pub offset : ℕ
  pub writes : Bool

-- a use that has no way to go
abbrev pub here : Use → Bool → VariableUse
here x w = record { place = []; variable = x.number; offset = x.offset; writes = w }

-- the variables that an expression names, in the order of the source
abbrev pub named_layer : Expression-F (List Use) → List Use
named_layer (Expression-F.Constant v) = []
named_layer (Expression-F.Variable x w) = x ∷ []
named_layer (Expression-F.Received c w) = []
named_layer (Expression-F.Binary op a b) = a ++ b
named_layer (Expression-F.Not a) = a
named_layer (Expression-F.Cast a w) = a

abbrev pub named : Expression → List Use
named = fold-Expression (List Use) named_layer

-- what an expression reads
abbrev pub reads : Expression → List VariableUse
reads e = map (λ x. here x false) (named e)

-- a use behind an entry
abbrev pub farther : Entry → VariableUse → VariableUse
farther x u = record { place = x ∷ u.place; variable = u.variable; offset = u.offset; writes = u.writes }

-- uses behind an entry
abbrev pub behind : Entry → List VariableUse → List VariableUse
behind x us = map (farther x) us

-- the uses of children, those of the n-th of them behind `entry n`
abbrev pub numbered : (ℕ → Entry) → ℕ → List (List VariableUse) → List VariableUse
numbered entry n [] = []
numbered entry n (us ∷ rest) = behind (entry n) us ++ numbered entry (suc n) rest

-- the arms of a choice, and its else as the last
abbrev pub with_last : List (List VariableUse) → Option (List VariableUse) → List (List VariableUse)
with_last arms None = arms
with_last arms (Some last) = arms ++ last ∷ []

-- one layer of a command, one line a form
abbrev pub uses_layer : Action-F (List VariableUse) (List VariableUse) (List VariableUse) (List VariableUse)
    (List VariableUse) → List VariableUse
uses_layer Action-F.Continue = []
uses_layer Action-F.Halt = []
uses_layer (Action-F.Assign x w e) = here x true ∷ reads e
uses_layer (Action-F.Send c w e) = reads e
uses_layer (Action-F.Receive c x) = here x true ∷ []
uses_layer (Action-F.Sync c) = []
uses_layer (Action-F.Loop body) = body
uses_layer (Action-F.While e body) = reads e ++ body
uses_layer (Action-F.If arms last) = numbered Ordered 0 (with_last arms last)
uses_layer (Action-F.Case e arms last) = reads e ++ numbered Ordered 0 (with_last arms last)
uses_layer (Action-F.Input c body) = body
uses_layer (Action-F.Select arms) = numbered Ordered 0 arms
uses_layer (Action-F.Arbitrate arms) = numbered Ordered 0 arms
uses_layer (Action-F.Sequence children) = numbered Ordered 0 children
uses_layer (Action-F.Parallel children) = numbered Branch 0 children

abbrev pub arm_uses : Arm-F (List VariableUse) (List VariableUse) (List VariableUse) (List VariableUse)
    (List VariableUse) → List VariableUse
arm_uses a = a.body

abbrev pub command_uses : Command-F (List VariableUse) (List VariableUse) (List VariableUse) (List VariableUse)
    (List VariableUse) → List VariableUse
command_uses c = c.action

abbrev pub guarded_uses : Guarded-F (List VariableUse) (List VariableUse) (List VariableUse) (List VariableUse)
    (List VariableUse) → List VariableUse
guarded_uses a = reads a.guard ++ a.body

abbrev pub labelled_uses : Labelled-F (List VariableUse) (List VariableUse) (List VariableUse) (List VariableUse)
    (List VariableUse) → List VariableUse
labelled_uses a = a.body

-- the uses of variables in a command
abbrev pub uses_of : Command → List VariableUse
uses_of =
    fold-Command (List VariableUse) (List VariableUse) (List VariableUse) (List VariableUse)
    (List VariableUse) uses_layer arm_uses command_uses guarded_uses labelled_uses
