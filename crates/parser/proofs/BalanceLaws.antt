-- Rules behind which as many levels may be opened as before them, up to a whole description.
use Rattle.std.proofs.Common.{◌≡◌, inl, inr, ℕ, zero, suc, List, [], ◌∷◌, ◌∙◌, ap}
use Rattle.lexer.specs.declared.token.Kind.{Kind}
use Rattle.syntax.specs.declared.name.Identifier.{Identifier}
use Rattle.syntax.specs.declared.command.Action.{Action}
use Rattle.syntax.specs.declared.command.Command.{Command}
use Rattle.parser.specs.Input.{Input}
use Rattle.parser.specs.Rules.{Rule, bind, pure, take, either, turns, repeat, inside}
use Rattle.parser.specs.Grammar as g

pub record Balanced {A : Type 0} (rule : Rule A) : Type 0 where
  pub levels : (i : Input) (a : A) (j : Input) → rule i a j → i.levels ≡ j.levels

pure_balanced : {A : Type 0} (a : A) → Balanced (pure a)
unfolding pure
pure_balanced a = record { levels = λ i b j s. ap (λ i. i.levels) s.1 }

take_balanced : (kinds : List Kind) → Balanced (take kinds)
unfolding take
take_balanced kinds = record { levels = λ i token j s. ap (λ i. i.levels) s.1 }

bind_balanced : {A B : Type 0} {rule : Rule A} {following : A → Rule B} → Balanced rule → ((a : A) → Balanced (following a)) → Balanced (bind rule following)
unfolding bind
bind_balanced first second = record { levels = λ i b k s. first.levels i s.0 s.1 s.2 ∙ (second s.0).levels s.1 b k s.3 }

either_balanced : {A : Type 0} {first second : Rule A} → Balanced first → Balanced second → Balanced (either first second)
unfolding either
either_balanced first second = record { levels = λ i a j s. elim s [ inl one ↦ first.levels i a j one | inr other ↦ second.levels i a j other ] }

turns_balanced : {A : Type 0} {turn : A → Rule A} → ((a : A) → Balanced (turn a)) → (n : ℕ) (a : A) → Balanced (turns turn n a)
turns_balanced one zero a = pure_balanced a
turns_balanced one (suc n) a = bind_balanced (one a) (λ b. turns_balanced one n b)

repeat_balanced : {A : Type 0} {turn : A → Rule A} → ((a : A) → Balanced (turn a)) → (a : A) → Balanced (repeat turn a)
unfolding repeat
repeat_balanced one a = record { levels = λ i b j s. (turns_balanced one s.0 a).levels i b j s.1 }

inside_balanced : {A : Type 0} (rule : Rule A) → Balanced (inside rule)
unfolding inside
inside_balanced rule = record { levels = λ i a j s. s.2 }

-- ---- items in a row, names and types

module _ {A : Type 0} {item : Rule A} (one : Balanced item) where
  several_balanced : (found : List A) → Balanced (g.several item found)
  unfolding g.several g.one_more
  several_balanced found = repeat_balanced (λ found. bind_balanced one (λ another. pure_balanced _)) found

  behind_balanced : (sign : Kind) → Balanced (g.behind sign item)
  unfolding g.behind
  behind_balanced sign = bind_balanced (take_balanced _) (λ _. one)

separated_balanced : {A : Type 0} {item : Rule A} → Balanced item → (sign : Kind) → Balanced (g.separated sign item)
unfolding g.separated
separated_balanced one sign = bind_balanced one (λ first. several_balanced (behind_balanced one sign) (first ∷ []))

identifier_balanced : Balanced g.identifier
unfolding g.identifier
identifier_balanced = bind_balanced (take_balanced _) (λ token. pure_balanced _)

names_balanced : Balanced g.names
unfolding g.names
names_balanced = separated_balanced identifier_balanced _

width_balanced : Balanced g.width
unfolding g.width
width_balanced = bind_balanced (take_balanced _) (λ token. bind_balanced (take_balanced _) (λ _. pure_balanced _))

type_name_balanced : Balanced g.type_name_of
unfolding g.type_name_of g.type_by_width g.type_by_name
type_name_balanced = either_balanced (bind_balanced width_balanced (λ bits. pure_balanced _)) (bind_balanced identifier_balanced (λ name. pure_balanced _))

type_behind_balanced : Balanced g.type_behind
unfolding g.type_behind
type_behind_balanced = bind_balanced (take_balanced _) (λ _. type_name_balanced)

-- ---- commands: what opens levels closes them again

simple_balanced : (depth : ℕ) → Balanced (g.simple depth)
unfolding g.simple_of
simple_balanced zero = inside_balanced _
simple_balanced (suc depth) = inside_balanced _

alone_or_joined_balanced : (sign : Kind) (make : List Command → Action) {item : Rule Command} → Balanced item → Balanced (g.alone_or_joined sign make item)
unfolding g.alone_or_joined g.joined
alone_or_joined_balanced sign make one = bind_balanced one (λ first. either_balanced
    (bind_balanced (behind_balanced one sign) (λ second. bind_balanced (several_balanced (behind_balanced one sign) _) (λ children. pure_balanced _)))
    (pure_balanced _))

command_balanced : (depth : ℕ) → Balanced (g.command depth)
unfolding g.command g.command_of g.parallel_of
command_balanced depth = alone_or_joined_balanced _ _ (alone_or_joined_balanced _ _ (simple_balanced depth))

-- ---- declarations

type_definition_balanced : Balanced g.type_definition
unfolding g.type_definition g.bits g.enumeration
type_definition_balanced = either_balanced
    (bind_balanced width_balanced (λ given. pure_balanced _))
    (bind_balanced (take_balanced _) (λ _. bind_balanced names_balanced (λ elements. bind_balanced (take_balanced _) (λ _. pure_balanced _))))

type_declaration_balanced : Balanced g.type_declaration
unfolding g.type_declaration
type_declaration_balanced = bind_balanced (take_balanced _)
    (λ _. bind_balanced identifier_balanced (λ name. bind_balanced (take_balanced _) (λ _. bind_balanced type_definition_balanced (λ given. pure_balanced _))))

port_balanced : Balanced g.port_of
unfolding g.port_of g.input_port g.output_port g.sync_port
port_balanced = either_balanced
    (bind_balanced (take_balanced _) (λ _. bind_balanced names_balanced (λ names. bind_balanced type_behind_balanced (λ type. pure_balanced _))))
    (either_balanced
    (bind_balanced (take_balanced _) (λ _. bind_balanced names_balanced (λ names. bind_balanced type_behind_balanced (λ type. pure_balanced _))))
    (bind_balanced (take_balanced _) (λ _. bind_balanced names_balanced (λ names. pure_balanced _))))

ports_balanced : Balanced g.ports
unfolding g.ports g.port_list
ports_balanced = either_balanced
    (bind_balanced (take_balanced _) (λ _. bind_balanced (separated_balanced port_balanced _) (λ ports. bind_balanced (take_balanced _) (λ _. pure_balanced _))))
    (pure_balanced _)

variables_balanced : Balanced g.variables
unfolding g.variables
variables_balanced = bind_balanced (take_balanced _) (λ _. bind_balanced names_balanced (λ names. bind_balanced type_behind_balanced (λ type. pure_balanced _)))

shared_variables_balanced : Balanced g.shared_variables
unfolding g.shared_variables
shared_variables_balanced = bind_balanced (take_balanced _)
    (λ _. bind_balanced (take_balanced _) (λ _. bind_balanced names_balanced (λ names. bind_balanced type_behind_balanced (λ type. pure_balanced _))))

channels_balanced : Balanced g.channels
unfolding g.channels
channels_balanced = bind_balanced (take_balanced _) (λ _. bind_balanced names_balanced (λ names. bind_balanced type_behind_balanced (λ type. pure_balanced _)))

syncs_balanced : Balanced g.syncs
unfolding g.syncs
syncs_balanced = bind_balanced (take_balanced _) (λ _. bind_balanced names_balanced (λ names. pure_balanced _))

local_balanced : Balanced g.local_of
unfolding g.local_of
local_balanced = either_balanced variables_balanced (either_balanced shared_variables_balanced (either_balanced channels_balanced syncs_balanced))

block_balanced : (depth : ℕ) → Balanced (g.block depth)
unfolding g.block
block_balanced depth = bind_balanced (take_balanced _) (λ _. bind_balanced (command_balanced depth) (λ held. bind_balanced (take_balanced _) (λ _. pure_balanced _)))

procedure_of_balanced : (depth : ℕ) (name : Identifier) → Balanced (g.procedure_of depth name)
unfolding g.procedure_of
procedure_of_balanced depth name = bind_balanced ports_balanced
    (λ ports. bind_balanced (take_balanced _) (λ _. bind_balanced (several_balanced local_balanced []) (λ locals. bind_balanced (block_balanced depth) (λ held. pure_balanced _))))

procedure_balanced : (depth : ℕ) → Balanced (g.procedure depth)
unfolding g.procedure
procedure_balanced depth = bind_balanced (take_balanced _) (λ _. bind_balanced identifier_balanced (λ name. procedure_of_balanced depth name))

procedures_balanced : (depth : ℕ) → Balanced (g.procedures depth)
unfolding g.procedures
procedures_balanced depth = bind_balanced (procedure_balanced depth) (λ first. several_balanced (procedure_balanced depth) (first ∷ []))

pub description_balanced : (depth : ℕ) → Balanced (g.description depth)
unfolding g.description
description_balanced depth = bind_balanced (several_balanced type_declaration_balanced []) (λ types. bind_balanced (procedures_balanced depth) (λ procedures. pure_balanced _))
