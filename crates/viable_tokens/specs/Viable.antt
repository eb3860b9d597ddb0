-- Which tokens can stand behind others, by the grammar.
use Rattle.std.specs.Prelude.{◌≡◌, ◌⊎◌, ◌++◌, ◌∷◌, [], List}
use Rattle.lexer.specs.declared.token.Kind.{Kind}
use Rattle.lexer.specs.declared.token.Kind.TheVariants as kind
use Rattle.lexer.specs.declared.token.Token.{Token}
use Rattle.parser.specs.Accepted.{Begins}
use Rattle.syntax.specs.Lists.{Every, In}

-- all kinds of tokens, in the order in which they are told
abbrev pub all_kinds : List Kind
all_kinds =
    kind.Name ∷ kind.Number ∷ kind.AndWord ∷ kind.ArbitrateWord ∷ kind.AsWord ∷ kind.BeginWord ∷ kind.BitsWord ∷
    kind.CaseWord ∷ kind.ChannelWord ∷ kind.ContinueWord ∷ kind.ElseWord ∷ kind.EndWord ∷ kind.EnumerationWord ∷
    kind.HaltWord ∷ kind.IfWord ∷ kind.InputWord ∷ kind.IsWord ∷ kind.LoopWord ∷ kind.NotWord ∷ kind.OfWord ∷
    kind.OrWord ∷ kind.OutputWord ∷ kind.ProcedureWord ∷ kind.SelectWord ∷ kind.SharedWord ∷ kind.SyncWord ∷
    kind.ThenWord ∷ kind.TypeWord ∷ kind.VariableWord ∷ kind.WhileWord ∷ kind.XorWord ∷ kind.AssignSign ∷
    kind.SendSign ∷ kind.ReceiveSign ∷ kind.DoubleBar ∷ kind.Bar ∷ kind.Semicolon ∷ kind.Colon ∷ kind.Comma ∷
    kind.LeftParenthesis ∷ kind.RightParenthesis ∷ kind.LeftBracket ∷ kind.RightBracket ∷ kind.PlusSign ∷
    kind.MinusSign ∷ kind.EqualSign ∷ kind.NotEqualSign ∷ kind.LessSign ∷ kind.GreaterSign ∷ kind.LessOrEqualSign ∷
    kind.GreaterOrEqualSign ∷ kind.End ∷ []

-- a description begins with the tokens of `front` and one of this kind; of the kind of the end: those of `front` are one
abbrev pub CanStand : List Token → Kind → Type 0
CanStand front kind = (token : Token) × (token.kind ≡ kind) × Begins (front ++ token ∷ [])

-- the first list is the second, or what is left of it where some of its kinds are left out: so they stand in its order,
-- and none stands there more often
abbrev pub AreSomeOf : List Kind → List Kind → Type 0
AreSomeOf [] others = Unit {0}
AreSomeOf (kind ∷ kinds) [] = ⊥
AreSomeOf (kind ∷ kinds) (other ∷ others) =
    ((kind ≡ other) × AreSomeOf kinds others) ⊎ AreSomeOf (kind ∷ kinds) others

-- of some kinds, exactly those that can stand there, in their order
pub record AreViable (front : List Token) (among viable : List Kind) : Type 0 where
  pub right : Every (CanStand front) viable
  pub every : (kind : Kind) → In kind among → CanStand front kind → In kind viable
  pub in_order : AreSomeOf viable among

-- of all kinds, exactly those that can stand there, each once and in order
pub record AreAllViable (front : List Token) (viable : List Kind) : Type 0 where
  pub right : Every (CanStand front) viable
  pub every : (kind : Kind) → CanStand front kind → In kind viable
  pub in_order : AreSomeOf viable all_kinds
