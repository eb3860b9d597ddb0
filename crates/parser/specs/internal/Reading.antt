-- The grammar a second time, word by word: how it is read, where each choice is made by the kind of the next token.
-- No reader has to believe it: `proofs/Parsed.antt` ties it to the grammar, and the contract of `parse` cites that
-- alone.
use Rattle.std.specs.Prelude.{ℕ, zero, suc, List, [], ◌∷◌, ◌++◌, Option, Some, None}
use Rattle.lexer.specs.declared.token.Kind.{Kind}
use Rattle.lexer.specs.declared.token.Kind.TheVariants as kind
use Rattle.syntax.specs.declared.span.Span.{Span}
use Rattle.syntax.specs.declared.name.Identifier.{Identifier}
use Rattle.syntax.specs.declared.expression.Width.{Width}
use Rattle.syntax.specs.declared.expression.TypeName.{TypeName}
use Rattle.syntax.specs.declared.expression.TypeName.TheVariants as type_name
use Rattle.syntax.specs.declared.expression.Expr.{Expr}
use Rattle.syntax.specs.declared.expression.Shape.TheVariants as shape
use Rattle.syntax.specs.declared.command.Label.{Label}
use Rattle.syntax.specs.declared.command.Command.{Command}
use Rattle.syntax.specs.declared.command.Action.{Action}
use Rattle.syntax.specs.declared.command.Action.TheVariants as action
use Rattle.syntax.specs.declared.command.Guarded.{Guarded, roll-Guarded}
use Rattle.syntax.specs.declared.command.CaseArm.{CaseArm, roll-CaseArm}
use Rattle.syntax.specs.declared.command.Arm.{Arm, roll-Arm}
use Rattle.syntax.specs.declared.declaration.TypeDefinition.{TypeDefinition}
use Rattle.syntax.specs.declared.declaration.TypeDefinition.TheVariants as definition
use Rattle.syntax.specs.declared.declaration.TypeDeclaration.{TypeDeclaration}
use Rattle.syntax.specs.declared.declaration.Port.{Port}
use Rattle.syntax.specs.declared.declaration.Local.{Local}
use Rattle.syntax.specs.declared.declaration.Procedure.{Procedure}
use Rattle.syntax.specs.declared.declaration.Description.{Description}
use Rattle.parser.specs.Trees.{through, identifier_of, width_of, number_label, name_label, span_of, expression_at, in_parentheses, binary, command_span, command_at, over}
use Rattle.parser.specs.internal.BySign.{given_by, typed_port, typed_local, synced_port, synced_local}
use Rattle.parser.specs.internal.Readers.{Reader, ◌>>=◌, ◌>>◌, pure, take, take_open, branch, repeat, inside, nothing}
use Rattle.parser.specs.Grammar.{sum_signs, comparison_signs, conjunct_words, expression_words}

-- an item behind what was found before
unfoldable pub one_more : {A : Type 0} → Reader A → List A → Reader (List A)
one_more item found = do
  another ← item
  pure (found ++ another ∷ [])

-- { item }, behind what was found before, where an item begins with one of these kinds
unfoldable pub several : {A : Type 0} → List Kind → Reader A → List A → Reader (List A)
several kinds item = repeat kinds (one_more item)

-- sign item
unfoldable pub behind : {A : Type 0} → Kind → Reader A → Reader A
behind sign item = take (sign ∷ []) >> item

-- item { another }, where another begins with one of these kinds
abbrev pub one_or_more : {A : Type 0} → List Kind → Reader A → Reader A → Reader (List A)
one_or_more kinds item another = do
  first ← item
  several kinds another (first ∷ [])

-- item { sign item }
unfoldable pub separated : {A : Type 0} → Kind → Reader A → Reader (List A)
separated sign item = one_or_more (sign ∷ []) item (behind sign item)

-- ---- names and types

unfoldable pub identifier : Reader Identifier
identifier = do
  token ← take (kind.Name ∷ [])
  pure (identifier_of token)

-- name { "," name }
unfoldable pub names : Reader (List Identifier)
names = separated kind.Comma identifier

-- number "bits"
unfoldable pub width : Reader Width
width = do
  token ← take (kind.Number ∷ [])
  take (kind.BitsWord ∷ [])
  pure (width_of token)

unfoldable pub type_by_width : Reader TypeName
type_by_width = do
  bits ← width
  pure (type_name.Bits bits)

unfoldable pub type_by_name : Reader TypeName
type_by_name = do
  name ← identifier
  pure (type_name.Named name)

-- name | number "bits"
unfoldable pub type_name_of : Reader TypeName
type_name_of = branch (kind.Number ∷ []) type_by_width type_by_name

-- ":" type
unfoldable pub type_behind : Reader TypeName
type_behind = take (kind.Colon ∷ []) >> type_name_of

unfoldable pub label_by_number : Reader Label
label_by_number = do
  token ← take (kind.Number ∷ [])
  pure (number_label token)

unfoldable pub label_by_name : Reader Label
label_by_name = do
  name ← identifier
  pure (name_label name)

-- number | name
unfoldable pub label_of : Reader Label
label_of = branch (kind.Number ∷ []) label_by_number label_by_name

-- label { "," label }
unfoldable pub labels : Reader (List Label)
labels = separated kind.Comma label_of

-- ---- expressions

unfoldable pub number : Reader Expr
number = do
  token ← take (kind.Number ∷ [])
  pure (expression_at token.span (shape.Number token.number))

unfoldable pub variable_name : Reader Expr
variable_name = do
  name ← identifier
  pure (expression_at name.span (shape.Name name.name))

-- an operator behind its left operand, and the right one. It opens a level.
unfoldable pub operation : ℕ → List Kind → Reader Expr → Expr → Reader Expr
operation depth signs operand left = do
  sign ← take_open depth signs
  right ← operand
  pure (binary sign left right)

-- operand { sign operand }, grouped to the left
unfoldable pub grouped : ℕ → List Kind → Reader Expr → Reader Expr
grouped depth signs operand = do
  first ← operand
  repeat signs (operation depth signs operand) first

-- operand [ sign operand ], with a sign that compares
unfoldable pub compared : ℕ → Reader Expr → Reader Expr
compared depth operand = do
  left ← operand
  branch comparison_signs (operation depth comparison_signs operand left) (pure left)

-- What is written inside a level of this depth, over what a factor is there.
module _ (depth : ℕ) (factor : Reader Expr) where
  -- factor { ( "+" | "-" ) factor }
  unfoldable pub sum_of : Reader Expr
  sum_of = grouped depth sum_signs factor

  -- sum [ ( "=" | "/=" | "<" | ">" | "<=" | ">=" ) sum ]
  unfoldable pub comparison_of : Reader Expr
  comparison_of = compared depth sum_of

  -- comparison { "and" comparison }
  unfoldable pub conjunct_of : Reader Expr
  conjunct_of = grouped depth conjunct_words comparison_of

  -- conjunct { ( "or" | "xor" ) conjunct }
  unfoldable pub expression_of : Reader Expr
  expression_of = inside (grouped depth expression_words conjunct_of)

-- "as" type ")"
unfoldable pub cast : Span → Expr → Reader Expr
cast start operand = do
  take (kind.AsWord ∷ [])
  to ← type_name_of
  stop ← take (kind.RightParenthesis ∷ [])
  pure (expression_at (through start stop.span) (shape.Cast operand to))

-- ")"
unfoldable pub closing : Span → Expr → Reader Expr
closing start operand = do
  stop ← take (kind.RightParenthesis ∷ [])
  pure (in_parentheses (through start stop.span) operand)

-- What opens a level of this depth, over what stands in that level.
module _ (depth : ℕ) (inner_factor inner_expression : Reader Expr) where
  -- "not" factor
  unfoldable pub negation : Reader Expr
  negation = do
    start ← take_open depth (kind.NotWord ∷ [])
    operand ← inner_factor
    pure (expression_at (through start.span (span_of operand)) (shape.Not operand))

  -- "(" expression [ "as" type ] ")"
  unfoldable pub parenthesised : Reader Expr
  parenthesised = do
    start ← take_open depth (kind.LeftParenthesis ∷ [])
    operand ← inner_expression
    branch (kind.AsWord ∷ []) (cast start.span operand) (closing start.span operand)

  -- "not" factor | "(" expression [ "as" type ] ")" | number | name
  unfoldable pub any_factor : Reader Expr
  any_factor =
      branch (kind.NotWord ∷ []) negation
      (branch (kind.LeftParenthesis ∷ []) parenthesised (branch (kind.Number ∷ []) number variable_name))

  unfoldable pub factor_of : Reader Expr
  factor_of = inside any_factor

abbrev pub factor : ℕ → Reader Expr
factor zero = factor_of zero nothing nothing
factor (suc depth) = factor_of (suc depth) (factor depth) (expression_of (suc depth) (factor depth))

unfoldable pub expression : ℕ → Reader Expr
expression depth = expression_of (suc depth) (factor depth)

-- ---- commands

-- a command that is one word
unfoldable pub word : Kind → Action → Reader Command
word spelled action = do
  token ← take (spelled ∷ [])
  pure (command_at token.span action)

-- "sync" name
unfoldable pub synchronisation : Reader Command
synchronisation = do
  start ← take (kind.SyncWord ∷ [])
  channel ← identifier
  pure (command_at (through start.span channel.span) (action.Sync channel))

-- sign expression, behind a name
abbrev pub giving : Kind → (Identifier → Expr → Action) → Reader Expr → Identifier → Reader Command
giving sign make expression name = do
  take (sign ∷ [])
  value ← expression
  pure (command_at (through name.span (span_of value)) (make name value))

-- ":=" expression, behind the name of a variable
unfoldable pub assignment : Reader Expr → Identifier → Reader Command
assignment = giving kind.AssignSign (given_by kind.AssignSign)

-- "<-" expression, behind the name of a channel
unfoldable pub sending : Reader Expr → Identifier → Reader Command
sending = giving kind.SendSign (given_by kind.SendSign)

-- name, behind the name of a channel and "->"
unfoldable pub receiving : Identifier → Reader Command
receiving channel = do
  variable ← identifier
  pure (command_at (through channel.span variable.span) (action.Receive channel variable))

-- [ names ]
unfoldable pub arguments : Reader (List Identifier)
arguments = branch (kind.Name ∷ []) names (pure [])

-- "(" [ names ] ")", behind the name of a procedure
unfoldable pub call : Identifier → Reader Command
call procedure = do
  take (kind.LeftParenthesis ∷ [])
  given ← arguments
  stop ← take (kind.RightParenthesis ∷ [])
  pure (command_at (through procedure.span stop.span) (action.Call procedure given))

-- two items or more with signs between them, which make one command, behind the first
unfoldable pub joined : Kind → (List Command → Action) → Reader Command → Command → Reader Command
joined sign make item first = do
  second ← behind sign item
  children ← several (sign ∷ []) (behind sign item) (first ∷ second ∷ [])
  pure (command_at (over (command_span first) children) (make children))

-- item { sign item }, where one item alone is itself
unfoldable pub alone_or_joined : Kind → (List Command → Action) → Reader Command → Reader Command
alone_or_joined sign make item = do
  first ← item
  branch (sign ∷ []) (joined sign make item first) (pure first)

-- simple { "||" simple }
unfoldable pub parallel_of : Reader Command → Reader Command
parallel_of simple = alone_or_joined kind.DoubleBar action.Parallel simple

-- parallel { ";" parallel }
unfoldable pub command_of : Reader Command → Reader Command
command_of simple = alone_or_joined kind.Semicolon action.Sequence (parallel_of simple)

-- "end", behind what begins there
abbrev pub ended : Span → Action → Reader Command
ended start given = do
  stop ← take (kind.EndWord ∷ [])
  pure (command_at (through start stop.span) given)

-- The parts of what opens a level, over what is a command and an expression there.
module _ (command : Reader Command) (expression : Reader Expr) where
  -- "then" command
  unfoldable pub body : Reader Command
  body = take (kind.ThenWord ∷ []) >> command

  -- "else" command
  unfoldable pub last_body : Reader (Option Command)
  last_body = do
    take (kind.ElseWord ∷ [])
    last ← command
    pure (Some last)

  -- [ "else" command ]
  unfoldable pub otherwise : Reader (Option Command)
  otherwise = branch (kind.ElseWord ∷ []) last_body (pure None)

  -- "while" expression "then" command "end"
  unfoldable pub while_loop : Span → Reader Command
  while_loop start = do
    take (kind.WhileWord ∷ [])
    guard ← expression
    repeated ← body
    ended start (action.While guard repeated)

  -- command "end"
  unfoldable pub endless : Span → Reader Command
  endless start = do
    repeated ← command
    ended start (action.Loop repeated)

  -- expression "then" command
  unfoldable pub guarded : Reader Guarded
  guarded = do
    guard ← expression
    chosen ← body
    pure (roll-Guarded (record { guard = guard; body = chosen }))

  -- labels "then" command
  unfoldable pub case_arm : Reader CaseArm
  case_arm = do
    given ← labels
    chosen ← body
    pure (roll-CaseArm (record { labels = given; body = chosen }))

  -- name "then" command
  unfoldable pub arm_of : Reader Arm
  arm_of = do
    channel ← identifier
    chosen ← body
    pure (roll-Arm (record { channel = channel; body = chosen }))

  -- "of" labels "then" command { "|" labels "then" command } [ "else" command ] "end", behind "case" and the value
  abbrev pub cases : Span → Expr → Reader Command
  cases start value = do
    take (kind.OfWord ∷ [])
    arms ← separated kind.Bar case_arm
    last ← otherwise
    ended start (action.Case value arms last)

  -- "|" name "then" command "end", behind "arbitrate" and the first arm
  abbrev pub against : Span → Arm → Reader Command
  against start first = do
    take (kind.Bar ∷ [])
    second ← arm_of
    ended start (action.Arbitrate first second)

-- What a command begins with, over what an expression is beside it, and a command and an expression in the level that
-- it opens.
module _ (depth : ℕ) (expression : Reader Expr) (inner_command : Reader Command) (inner_expression : Reader Expr) where
  -- "[" command "]"
  unfoldable pub bracketed : Reader Command
  bracketed = do
    take_open depth (kind.LeftBracket ∷ [])
    held ← inner_command
    take (kind.RightBracket ∷ [])
    pure held

  -- "loop" [ "while" expression "then" ] command "end"
  unfoldable pub looping : Reader Command
  looping = do
    start ← take_open depth (kind.LoopWord ∷ [])
    branch (kind.WhileWord ∷ []) (while_loop inner_command inner_expression start.span)
        (endless inner_command inner_expression start.span)

  -- "if" expression "then" command { "|" expression "then" command } [ "else" command ] "end"
  unfoldable pub branching : Reader Command
  branching = do
    start ← take_open depth (kind.IfWord ∷ [])
    arms ← separated kind.Bar (guarded inner_command inner_expression)
    last ← otherwise inner_command inner_expression
    ended start.span (action.If arms last)

  -- "case" expression "of" labels "then" command { "|" labels "then" command } [ "else" command ] "end"
  unfoldable pub casing : Reader Command
  casing = do
    start ← take_open depth (kind.CaseWord ∷ [])
    value ← inner_expression
    cases inner_command inner_expression start.span value

  -- "select" name "then" command { "|" name "then" command } "end"
  unfoldable pub selecting : Reader Command
  selecting = do
    start ← take_open depth (kind.SelectWord ∷ [])
    arms ← separated kind.Bar (arm_of inner_command inner_expression)
    ended start.span (action.Select arms)

  -- "arbitrate" name "then" command "|" name "then" command "end"
  unfoldable pub arbitrating : Reader Command
  arbitrating = do
    start ← take_open depth (kind.ArbitrateWord ∷ [])
    first ← arm_of inner_command inner_expression
    against inner_command inner_expression start.span first

  -- "then" command "end", behind the name of a channel and "->"
  unfoldable pub enclosing : Identifier → Reader Command
  enclosing channel = do
    take_open depth (kind.ThenWord ∷ [])
    held ← inner_command
    ended channel.span (action.Input channel held)

  -- "->" name | "->" "then" command "end"
  unfoldable pub incoming : Identifier → Reader Command
  incoming channel = take (kind.ReceiveSign ∷ []) >> branch (kind.ThenWord ∷ []) (enclosing channel) (receiving channel)

  -- name ":=" expression | name "<-" expression | name "->" .. | name "(" [ names ] ")"
  unfoldable pub named : Reader Command
  named = do
    name ← identifier
    branch (kind.AssignSign ∷ []) (assignment expression name)
        (branch (kind.SendSign ∷ []) (sending expression name)
        (branch (kind.ReceiveSign ∷ []) (incoming name) (call name)))

  unfoldable pub any_simple : Reader Command
  any_simple =
      branch (kind.LeftBracket ∷ []) bracketed
      (branch (kind.LoopWord ∷ []) looping (branch (kind.IfWord ∷ []) branching (
      branch (kind.CaseWord ∷ []) casing
      (branch (kind.SelectWord ∷ []) selecting (branch (kind.ArbitrateWord ∷ []) arbitrating (
      branch (kind.SyncWord ∷ []) synchronisation (branch (kind.Name ∷ []) named (
      branch (kind.ContinueWord ∷ []) (word kind.ContinueWord action.Continue) (word kind.HaltWord action.Halt)))))))))

  unfoldable pub simple_of : Reader Command
  simple_of = inside any_simple

abbrev pub simple : ℕ → Reader Command
simple zero = simple_of zero (expression zero) nothing nothing
simple (suc depth) = simple_of (suc depth) (expression (suc depth)) (command_of (simple depth)) (expression depth)

unfoldable pub command : ℕ → Reader Command
command depth = command_of (simple depth)

-- ---- declarations

unfoldable pub bits : Reader TypeDefinition
bits = do
  given ← width
  pure (definition.Bits given)

unfoldable pub enumeration : Reader TypeDefinition
enumeration = do
  take (kind.EnumerationWord ∷ [])
  elements ← names
  take (kind.EndWord ∷ [])
  pure (definition.Enumeration elements)

-- number "bits" | "enumeration" names "end"
unfoldable pub type_definition : Reader TypeDefinition
type_definition = branch (kind.Number ∷ []) bits enumeration

-- "type" name "is" ( number "bits" | "enumeration" names "end" )
unfoldable pub type_declaration : Reader TypeDeclaration
type_declaration = do
  take (kind.TypeWord ∷ [])
  name ← identifier
  take (kind.IsWord ∷ [])
  given ← type_definition
  pure (record { name = name; definition = given })

-- word names ":" type
abbrev pub typed : {A : Type 0} → Kind → (List Identifier → TypeName → A) → Reader A
typed word make = do
  take (word ∷ [])
  declared ← names
  type ← type_behind
  pure (make declared type)

-- "sync" names
abbrev pub synced : {A : Type 0} → (List Identifier → A) → Reader A
synced make = do
  take (kind.SyncWord ∷ [])
  declared ← names
  pure (make declared)

-- "input" names ":" type
unfoldable pub input_port : Reader Port
input_port = typed kind.InputWord (typed_port kind.InputWord)

-- "output" names ":" type
unfoldable pub output_port : Reader Port
output_port = typed kind.OutputWord (typed_port kind.OutputWord)

-- "sync" names
unfoldable pub sync_port : Reader Port
sync_port = synced synced_port

unfoldable pub port_of : Reader Port
port_of = branch (kind.InputWord ∷ []) input_port (branch (kind.OutputWord ∷ []) output_port sync_port)

-- "(" port { ";" port } ")"
unfoldable pub port_list : Reader (List Port)
port_list = do
  take (kind.LeftParenthesis ∷ [])
  declared ← separated kind.Semicolon port_of
  take (kind.RightParenthesis ∷ [])
  pure declared

unfoldable pub ports : Reader (List Port)
ports = branch (kind.LeftParenthesis ∷ []) port_list (pure [])

-- "variable" names ":" type
unfoldable pub variables : Reader Local
variables = typed kind.VariableWord (typed_local kind.VariableWord)

-- "shared" "variable" names ":" type
unfoldable pub shared_variables : Reader Local
shared_variables = do
  take (kind.SharedWord ∷ [])
  take (kind.VariableWord ∷ [])
  declared ← names
  type ← type_behind
  pure (typed_local kind.SharedWord declared type)

-- "channel" names ":" type
unfoldable pub channels : Reader Local
channels = typed kind.ChannelWord (typed_local kind.ChannelWord)

-- "sync" names
unfoldable pub syncs : Reader Local
syncs = synced synced_local

unfoldable pub local_of : Reader Local
local_of =
    branch (kind.VariableWord ∷ []) variables
    (branch (kind.SharedWord ∷ []) shared_variables (branch (kind.ChannelWord ∷ []) channels syncs))

-- "begin" command "end"
unfoldable pub block : ℕ → Reader Command
block depth = do
  take (kind.BeginWord ∷ [])
  held ← command depth
  take (kind.EndWord ∷ [])
  pure held

-- [ "(" port { ";" port } ")" ] "is" { local } "begin" command "end", behind "procedure" name
unfoldable pub procedure_of : ℕ → Identifier → Reader Procedure
procedure_of depth name = do
  declared_ports ← ports
  take (kind.IsWord ∷ [])
  declared_locals ← several (kind.VariableWord ∷ kind.SharedWord ∷ kind.ChannelWord ∷ kind.SyncWord ∷ []) local_of []
  held ← block depth
  pure (record { name = name; ports = declared_ports; locals = declared_locals; body = held })

unfoldable pub procedure : ℕ → Reader Procedure
procedure depth = do
  take (kind.ProcedureWord ∷ [])
  name ← identifier
  procedure_of depth name

-- procedure { procedure }
unfoldable pub procedures : ℕ → Reader (List Procedure)
procedures depth = one_or_more (kind.ProcedureWord ∷ []) (procedure depth) (procedure depth)

-- { typedecl } procedure { procedure }
unfoldable pub description : ℕ → Reader Description
description depth = do
  declared_types ← several (kind.TypeWord ∷ []) type_declaration []
  declared_procedures ← procedures depth
  pure (record { types = declared_types; procedures = declared_procedures })
