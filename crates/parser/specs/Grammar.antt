-- The grammar: what tokens spell, a definition for each production.
use Rattle.std.specs.Prelude.{ℕ, zero, suc, List, [], ◌∷◌, ◌++◌, Option, Some, None}
use Rattle.lexer.specs.declared.token.Kind.{Kind}
use Rattle.lexer.specs.declared.token.Kind.TheVariants as kind
use Rattle.syntax.specs.declared.span.Span.{Span}
use Rattle.syntax.specs.declared.name.Identifier.{Identifier}
use Rattle.syntax.specs.declared.expression.Width.{Width}
use Rattle.syntax.specs.declared.expression.TypeName.{TypeName}
use Rattle.syntax.specs.declared.expression.TypeName.TheVariants as type_name
use Rattle.syntax.specs.declared.expression.Expr.{Expr}
use Rattle.syntax.specs.declared.expression.Shape.TheVariants as shape
use Rattle.syntax.specs.declared.command.Label.{Label}
use Rattle.syntax.specs.declared.command.Command.{Command}
use Rattle.syntax.specs.declared.command.Action.{Action}
use Rattle.syntax.specs.declared.command.Action.TheVariants as action
use Rattle.syntax.specs.declared.command.Guarded.{Guarded, roll-Guarded}
use Rattle.syntax.specs.declared.command.CaseArm.{CaseArm, roll-CaseArm}
use Rattle.syntax.specs.declared.command.Arm.{Arm, roll-Arm}
use Rattle.syntax.specs.declared.declaration.TypeDefinition.{TypeDefinition}
use Rattle.syntax.specs.declared.declaration.TypeDefinition.TheVariants as definition
use Rattle.syntax.specs.declared.declaration.TypeDeclaration.{TypeDeclaration}
use Rattle.syntax.specs.declared.declaration.Port.{Port}
use Rattle.syntax.specs.declared.declaration.PortKind.TheVariants as port
use Rattle.syntax.specs.declared.declaration.Local.{Local}
use Rattle.syntax.specs.declared.declaration.LocalKind.TheVariants as local
use Rattle.syntax.specs.declared.declaration.Procedure.{Procedure}
use Rattle.syntax.specs.declared.declaration.Description.{Description}
use Rattle.parser.specs.Trees.{through, identifier_of, width_of, number_label, name_label, span_of, expression_at, in_parentheses, binary, command_span, command_at, over}
use Rattle.parser.specs.Rules.{Rule, ◌>>=◌, ◌>>◌, pure, take, take_open, either, repeat, inside, nothing}

-- an item behind what was found before
unfoldable pub one_more : {A : Type 0} → Rule A → List A → Rule (List A)
one_more item found = do
  another ← item
  pure (found ++ another ∷ [])

-- { item }, behind what was found before
unfoldable pub several : {A : Type 0} → Rule A → List A → Rule (List A)
several item = repeat (one_more item)

-- sign item
unfoldable pub behind : {A : Type 0} → Kind → Rule A → Rule A
behind sign item = take (sign ∷ []) >> item

-- item { sign item }
unfoldable pub separated : {A : Type 0} → Kind → Rule A → Rule (List A)
separated sign item = do
  first ← item
  several (behind sign item) (first ∷ [])

-- ---- names and types

unfoldable pub identifier : Rule Identifier
identifier = do
  token ← take (kind.Name ∷ [])
  pure (identifier_of token)

-- name { "," name }
unfoldable pub names : Rule (List Identifier)
names = separated kind.Comma identifier

-- number "bits"
unfoldable pub width : Rule Width
width = do
  token ← take (kind.Number ∷ [])
  take (kind.BitsWord ∷ [])
  pure (width_of token)

unfoldable pub type_by_width : Rule TypeName
type_by_width = do
  bits ← width
  pure (type_name.Bits bits)

unfoldable pub type_by_name : Rule TypeName
type_by_name = do
  name ← identifier
  pure (type_name.Named name)

-- name | number "bits"
unfoldable pub type_name_of : Rule TypeName
type_name_of = either type_by_width type_by_name

-- ":" type
unfoldable pub type_behind : Rule TypeName
type_behind = take (kind.Colon ∷ []) >> type_name_of

unfoldable pub label_by_number : Rule Label
label_by_number = do
  token ← take (kind.Number ∷ [])
  pure (number_label token)

unfoldable pub label_by_name : Rule Label
label_by_name = do
  name ← identifier
  pure (name_label name)

-- number | name
unfoldable pub label_of : Rule Label
label_of = either label_by_number label_by_name

-- label { "," label }
unfoldable pub labels : Rule (List Label)
labels = separated kind.Comma label_of

-- ---- expressions

abbrev pub sum_signs : List Kind
sum_signs = kind.PlusSign ∷ kind.MinusSign ∷ []

abbrev pub comparison_signs : List Kind
comparison_signs =
    kind.EqualSign ∷ kind.NotEqualSign ∷ kind.LessSign ∷ kind.GreaterSign ∷ kind.LessOrEqualSign
    ∷ kind.GreaterOrEqualSign ∷ []

abbrev pub conjunct_words : List Kind
conjunct_words = kind.AndWord ∷ []

abbrev pub expression_words : List Kind
expression_words = kind.OrWord ∷ kind.XorWord ∷ []

unfoldable pub number : Rule Expr
number = do
  token ← take (kind.Number ∷ [])
  pure (expression_at token.span (shape.Number token.number))

unfoldable pub variable_name : Rule Expr
variable_name = do
  name ← identifier
  pure (expression_at name.span (shape.Name name.name))

-- an operator behind its left operand, and the right one. It opens a level.
unfoldable pub operation : ℕ → List Kind → Rule Expr → Expr → Rule Expr
operation depth signs operand left = do
  sign ← take_open depth signs
  right ← operand
  pure (binary sign left right)

-- operand { sign operand }, grouped to the left
unfoldable pub grouped : ℕ → List Kind → Rule Expr → Rule Expr
grouped depth signs operand = do
  first ← operand
  repeat (operation depth signs operand) first

-- What is written inside a level of this depth, over what a factor is there.
module _ (depth : ℕ) (factor : Rule Expr) where
  -- factor { ( "+" | "-" ) factor }
  unfoldable pub sum_of : Rule Expr
  sum_of = grouped depth sum_signs factor

  -- sum [ ( "=" | "/=" | "<" | ">" | "<=" | ">=" ) sum ]
  unfoldable pub comparison_of : Rule Expr
  comparison_of = do
    left ← sum_of
    either (operation depth comparison_signs sum_of left) (pure left)

  -- comparison { "and" comparison }
  unfoldable pub conjunct_of : Rule Expr
  conjunct_of = grouped depth conjunct_words comparison_of

  -- conjunct { ( "or" | "xor" ) conjunct }
  unfoldable pub expression_of : Rule Expr
  expression_of = inside (grouped depth expression_words conjunct_of)

-- "as" type ")"
unfoldable pub cast : Span → Expr → Rule Expr
cast start operand = do
  take (kind.AsWord ∷ [])
  to ← type_name_of
  stop ← take (kind.RightParenthesis ∷ [])
  pure (expression_at (through start stop.span) (shape.Cast operand to))

-- ")"
unfoldable pub closing : Span → Expr → Rule Expr
closing start operand = do
  stop ← take (kind.RightParenthesis ∷ [])
  pure (in_parentheses (through start stop.span) operand)

-- What opens a level of this depth, over what stands in that level.
module _ (depth : ℕ) (inner_factor inner_expression : Rule Expr) where
  -- "not" factor
  unfoldable pub negation : Rule Expr
  negation = do
    start ← take_open depth (kind.NotWord ∷ [])
    operand ← inner_factor
    pure (expression_at (through start.span (span_of operand)) (shape.Not operand))

  -- "(" expression [ "as" type ] ")"
  unfoldable pub parenthesised : Rule Expr
  parenthesised = do
    start ← take_open depth (kind.LeftParenthesis ∷ [])
    operand ← inner_expression
    either (cast start.span operand) (closing start.span operand)

  -- "not" factor | "(" expression [ "as" type ] ")" | number | name
  unfoldable pub any_factor : Rule Expr
  any_factor = either negation (either parenthesised (either number variable_name))

  unfoldable pub factor_of : Rule Expr
  factor_of = inside any_factor

abbrev pub factor : ℕ → Rule Expr
factor zero = factor_of zero nothing nothing
factor (suc depth) = factor_of (suc depth) (factor depth) (expression_of (suc depth) (factor depth))

unfoldable pub expression : ℕ → Rule Expr
expression depth = expression_of (suc depth) (factor depth)

-- ---- commands

-- a command that is one word
unfoldable pub word : Kind → Action → Rule Command
word spelled action = do
  token ← take (spelled ∷ [])
  pure (command_at token.span action)

-- "sync" name
unfoldable pub synchronisation : Rule Command
synchronisation = do
  start ← take (kind.SyncWord ∷ [])
  channel ← identifier
  pure (command_at (through start.span channel.span) (action.Sync channel))

-- ":=" expression, behind the name of a variable
unfoldable pub assignment : Rule Expr → Identifier → Rule Command
assignment expression variable = do
  take (kind.AssignSign ∷ [])
  value ← expression
  pure (command_at (through variable.span (span_of value)) (action.Assign variable value))

-- "<-" expression, behind the name of a channel
unfoldable pub sending : Rule Expr → Identifier → Rule Command
sending expression channel = do
  take (kind.SendSign ∷ [])
  value ← expression
  pure (command_at (through channel.span (span_of value)) (action.Send channel value))

-- name, behind the name of a channel and "->"
unfoldable pub receiving : Identifier → Rule Command
receiving channel = do
  variable ← identifier
  pure (command_at (through channel.span variable.span) (action.Receive channel variable))

-- [ names ]
unfoldable pub arguments : Rule (List Identifier)
arguments = either names (pure [])

-- "(" [ names ] ")", behind the name of a procedure
unfoldable pub call : Identifier → Rule Command
call procedure = do
  take (kind.LeftParenthesis ∷ [])
  given ← arguments
  stop ← take (kind.RightParenthesis ∷ [])
  pure (command_at (through procedure.span stop.span) (action.Call procedure given))

-- two items or more with signs between them, which make one command, behind the first
unfoldable pub joined : Kind → (List Command → Action) → Rule Command → Command → Rule Command
joined sign make item first = do
  second ← behind sign item
  children ← several (behind sign item) (first ∷ second ∷ [])
  pure (command_at (over (command_span first) children) (make children))

-- item { sign item }, where one item alone is itself
unfoldable pub alone_or_joined : Kind → (List Command → Action) → Rule Command → Rule Command
alone_or_joined sign make item = do
  first ← item
  either (joined sign make item first) (pure first)

-- simple { "||" simple }
unfoldable pub parallel_of : Rule Command → Rule Command
parallel_of simple = alone_or_joined kind.DoubleBar action.Parallel simple

-- parallel { ";" parallel }
unfoldable pub command_of : Rule Command → Rule Command
command_of simple = alone_or_joined kind.Semicolon action.Sequence (parallel_of simple)

-- The parts of what opens a level, over what is a command and an expression there.
module _ (command : Rule Command) (expression : Rule Expr) where
  -- "then" command
  unfoldable pub body : Rule Command
  body = take (kind.ThenWord ∷ []) >> command

  -- "else" command
  unfoldable pub last_body : Rule (Option Command)
  last_body = do
    take (kind.ElseWord ∷ [])
    last ← command
    pure (Some last)

  -- [ "else" command ]
  unfoldable pub otherwise : Rule (Option Command)
  otherwise = either last_body (pure None)

  -- "while" expression "then" command "end"
  unfoldable pub while_loop : Span → Rule Command
  while_loop start = do
    take (kind.WhileWord ∷ [])
    guard ← expression
    repeated ← body
    stop ← take (kind.EndWord ∷ [])
    pure (command_at (through start stop.span) (action.While guard repeated))

  -- command "end"
  unfoldable pub endless : Span → Rule Command
  endless start = do
    repeated ← command
    stop ← take (kind.EndWord ∷ [])
    pure (command_at (through start stop.span) (action.Loop repeated))

  -- expression "then" command
  unfoldable pub guarded : Rule Guarded
  guarded = do
    guard ← expression
    chosen ← body
    pure (roll-Guarded (record { guard = guard; body = chosen }))

  -- labels "then" command
  unfoldable pub case_arm : Rule CaseArm
  case_arm = do
    given ← labels
    chosen ← body
    pure (roll-CaseArm (record { labels = given; body = chosen }))

  -- name "then" command
  unfoldable pub arm_of : Rule Arm
  arm_of = do
    channel ← identifier
    chosen ← body
    pure (roll-Arm (record { channel = channel; body = chosen }))

-- What a command begins with, over what an expression is beside it, and a command and an expression in the level that
-- it opens.
module _ (depth : ℕ) (expression : Rule Expr) (inner_command : Rule Command) (inner_expression : Rule Expr) where
  -- "[" command "]"
  unfoldable pub bracketed : Rule Command
  bracketed = do
    take_open depth (kind.LeftBracket ∷ [])
    held ← inner_command
    take (kind.RightBracket ∷ [])
    pure held

  -- "loop" [ "while" expression "then" ] command "end"
  unfoldable pub looping : Rule Command
  looping = do
    start ← take_open depth (kind.LoopWord ∷ [])
    either (while_loop inner_command inner_expression start.span) (endless inner_command inner_expression start.span)

  -- "if" expression "then" command { "|" expression "then" command } [ "else" command ] "end"
  unfoldable pub branching : Rule Command
  branching = do
    start ← take_open depth (kind.IfWord ∷ [])
    arms ← separated kind.Bar (guarded inner_command inner_expression)
    last ← otherwise inner_command inner_expression
    stop ← take (kind.EndWord ∷ [])
    pure (command_at (through start.span stop.span) (action.If arms last))

  -- "case" expression "of" labels "then" command { "|" labels "then" command } [ "else" command ] "end"
  unfoldable pub casing : Rule Command
  casing = do
    start ← take_open depth (kind.CaseWord ∷ [])
    value ← inner_expression
    take (kind.OfWord ∷ [])
    arms ← separated kind.Bar (case_arm inner_command inner_expression)
    last ← otherwise inner_command inner_expression
    stop ← take (kind.EndWord ∷ [])
    pure (command_at (through start.span stop.span) (action.Case value arms last))

  -- "select" name "then" command { "|" name "then" command } "end"
  unfoldable pub selecting : Rule Command
  selecting = do
    start ← take_open depth (kind.SelectWord ∷ [])
    arms ← separated kind.Bar (arm_of inner_command inner_expression)
    stop ← take (kind.EndWord ∷ [])
    pure (command_at (through start.span stop.span) (action.Select arms))

  -- "arbitrate" name "then" command "|" name "then" command "end"
  unfoldable pub arbitrating : Rule Command
  arbitrating = do
    start ← take_open depth (kind.ArbitrateWord ∷ [])
    first ← arm_of inner_command inner_expression
    take (kind.Bar ∷ [])
    second ← arm_of inner_command inner_expression
    stop ← take (kind.EndWord ∷ [])
    pure (command_at (through start.span stop.span) (action.Arbitrate first second))

  -- "then" command "end", behind the name of a channel and "->"
  unfoldable pub enclosing : Identifier → Rule Command
  enclosing channel = do
    take_open depth (kind.ThenWord ∷ [])
    held ← inner_command
    stop ← take (kind.EndWord ∷ [])
    pure (command_at (through channel.span stop.span) (action.Input channel held))

  -- "->" name | "->" "then" command "end"
  unfoldable pub incoming : Identifier → Rule Command
  incoming channel = take (kind.ReceiveSign ∷ []) >> either (enclosing channel) (receiving channel)

  -- name ":=" expression | name "<-" expression | name "->" .. | name "(" [ names ] ")"
  unfoldable pub named : Rule Command
  named = do
    name ← identifier
    either (assignment expression name) (either (sending expression name) (either (incoming name) (call name)))

  unfoldable pub any_simple : Rule Command
  any_simple =
      either bracketed (either looping (either branching (either casing (either selecting (either arbitrating
      (either synchronisation
      (either named (either (word kind.ContinueWord action.Continue) (word kind.HaltWord action.Halt)))))))))

  unfoldable pub simple_of : Rule Command
  simple_of = inside any_simple

abbrev pub simple : ℕ → Rule Command
simple zero = simple_of zero (expression zero) nothing nothing
simple (suc depth) = simple_of (suc depth) (expression (suc depth)) (command_of (simple depth)) (expression depth)

unfoldable pub command : ℕ → Rule Command
command depth = command_of (simple depth)

-- ---- declarations

unfoldable pub bits : Rule TypeDefinition
bits = do
  given ← width
  pure (definition.Bits given)

unfoldable pub enumeration : Rule TypeDefinition
enumeration = do
  take (kind.EnumerationWord ∷ [])
  elements ← names
  take (kind.EndWord ∷ [])
  pure (definition.Enumeration elements)

-- number "bits" | "enumeration" names "end"
unfoldable pub type_definition : Rule TypeDefinition
type_definition = either bits enumeration

-- "type" name "is" ( number "bits" | "enumeration" names "end" )
unfoldable pub type_declaration : Rule TypeDeclaration
type_declaration = do
  take (kind.TypeWord ∷ [])
  name ← identifier
  take (kind.IsWord ∷ [])
  given ← type_definition
  pure (record { name = name; definition = given })

-- "input" names ":" type
unfoldable pub input_port : Rule Port
input_port = do
  take (kind.InputWord ∷ [])
  declared ← names
  type ← type_behind
  pure (record { names = declared; kind = port.Input type })

-- "output" names ":" type
unfoldable pub output_port : Rule Port
output_port = do
  take (kind.OutputWord ∷ [])
  declared ← names
  type ← type_behind
  pure (record { names = declared; kind = port.Output type })

-- "sync" names
unfoldable pub sync_port : Rule Port
sync_port = do
  take (kind.SyncWord ∷ [])
  declared ← names
  pure (record { names = declared; kind = port.Sync })

unfoldable pub port_of : Rule Port
port_of = either input_port (either output_port sync_port)

-- "(" port { ";" port } ")"
unfoldable pub port_list : Rule (List Port)
port_list = do
  take (kind.LeftParenthesis ∷ [])
  declared ← separated kind.Semicolon port_of
  take (kind.RightParenthesis ∷ [])
  pure declared

unfoldable pub ports : Rule (List Port)
ports = either port_list (pure [])

-- "variable" names ":" type
unfoldable pub variables : Rule Local
variables = do
  take (kind.VariableWord ∷ [])
  declared ← names
  type ← type_behind
  pure (record { names = declared; kind = local.Variable type })

-- "shared" "variable" names ":" type
unfoldable pub shared_variables : Rule Local
shared_variables = do
  take (kind.SharedWord ∷ [])
  take (kind.VariableWord ∷ [])
  declared ← names
  type ← type_behind
  pure (record { names = declared; kind = local.SharedVariable type })

-- "channel" names ":" type
unfoldable pub channels : Rule Local
channels = do
  take (kind.ChannelWord ∷ [])
  declared ← names
  type ← type_behind
  pure (record { names = declared; kind = local.Channel type })

-- "sync" names
unfoldable pub syncs : Rule Local
syncs = do
  take (kind.SyncWord ∷ [])
  declared ← names
  pure (record { names = declared; kind = local.Sync })

unfoldable pub local_of : Rule Local
local_of = either variables (either shared_variables (either channels syncs))

-- "begin" command "end"
unfoldable pub block : ℕ → Rule Command
block depth = do
  take (kind.BeginWord ∷ [])
  held ← command depth
  take (kind.EndWord ∷ [])
  pure held

-- [ "(" port { ";" port } ")" ] "is" { local } "begin" command "end", behind "procedure" name
unfoldable pub procedure_of : ℕ → Identifier → Rule Procedure
procedure_of depth name = do
  declared_ports ← ports
  take (kind.IsWord ∷ [])
  declared_locals ← several local_of []
  held ← block depth
  pure (record { name = name; ports = declared_ports; locals = declared_locals; body = held })

unfoldable pub procedure : ℕ → Rule Procedure
procedure depth = do
  take (kind.ProcedureWord ∷ [])
  name ← identifier
  procedure_of depth name

-- procedure { procedure }
unfoldable pub procedures : ℕ → Rule (List Procedure)
procedures depth = do
  first ← procedure depth
  several (procedure depth) (first ∷ [])

-- { typedecl } procedure { procedure }
unfoldable pub description : ℕ → Rule Description
description depth = do
  declared_types ← several type_declaration []
  declared_procedures ← procedures depth
  pure (record { types = declared_types; procedures = declared_procedures })
