-- What is accepted because it fits.
use Rattle.std.specs.Prelude.{◌≤◌, ℕ, List, [], ◌∷◌, ◌++◌, None}
use Rattle.value.specs.Word.{least_width_of}
use Rattle.types.specs.Laws.{IsAccepted}
use Rattle.types.specs.Visible.{visible_in}
use Rattle.types.specs.Widths.{HasWidth, NameHasWidth}
use Rattle.syntax.specs.declared.command.Action.TheOpen.{Action-F}
use Rattle.syntax.specs.declared.command.Action.TheViews.{roll-Action, roll-CaseArm, roll-Command}
use Rattle.syntax.specs.declared.command.Command.{Command}
use Rattle.syntax.specs.declared.command.Label.{Label}
use Rattle.syntax.specs.declared.command.LabelValue.TheVariants as label
use Rattle.syntax.specs.declared.declaration.Procedure.{Procedure}
use Rattle.syntax.specs.declared.declaration.TypeDeclaration.{TypeDeclaration}
use Rattle.syntax.specs.declared.expression.Expr.{Expr}
use Rattle.syntax.specs.declared.name.Identifier.{Identifier}
use Rattle.syntax.specs.declared.span.Span.{Span}

-- the procedure with this body
abbrev pub with_body : Procedure → Command → Procedure
with_body p c = record p { body = c }

-- a description in which this procedure does this
abbrev pub IsAcceptedDoing : List TypeDeclaration → List Procedure → Procedure → List Procedure → Command → Type 0
IsAcceptedDoing types before p behind c =
    IsAccepted (record { types = types; procedures = before ++ with_body p c ∷ behind })

-- `case e of label then c end`
abbrev pub matching : Span → Expr → Label → Command → Command
matching span e l c =
    let arm = roll-CaseArm (record { labels = l ∷ []; body = c }) in
    roll-Command (record { span = span; action = roll-Action (Action-F.Case e (arm ∷ []) None) })

-- `x := e`
abbrev pub assigning : Span → Identifier → Expr → Command
assigning span x e = roll-Command (record { span = span; action = roll-Action (Action-F.Assign x e) })

-- An accepted description that matches an expression with a label stays accepted with any number as the label that is
-- no wider than the expression.
abbrev pub LabelsThatFitAreAccepted : Type 0
LabelsThatFitAreAccepted =
    (types : List TypeDeclaration) (before : List Procedure) (p : Procedure) (behind : List Procedure) →
    (span : Span) (e : Expr) (l : Label) (c : Command) (n width : ℕ) →
    IsAcceptedDoing types before p behind (matching span e l c) →
    HasWidth (visible_in types before p) e width → least_width_of n ≤ width →
    IsAcceptedDoing types before p behind (matching span e (record { span = l.span; value = label.Number n }) c)

-- Where a variable may be assigned something, and something may be assigned an expression, that expression may be
-- assigned to that variable, if it is no wider.
abbrev pub ValuesThatFitAreAccepted : Type 0
ValuesThatFitAreAccepted =
    (types : List TypeDeclaration) (before : List Procedure) (p : Procedure) (behind : List Procedure) →
    (span other : Span) (x y : Identifier) (d e : Expr) (width room : ℕ) →
    IsAcceptedDoing types before p behind (assigning span x d) →
    IsAcceptedDoing types before p behind (assigning other y e) →
    NameHasWidth (visible_in types before p) x.name room → HasWidth (visible_in types before p) e width →
    width ≤ room →
    IsAcceptedDoing types before p behind (assigning span x e)
