-- The laws of declarations and of a whole description.
use Rattle.std.proofs.Common.{ℕ, suc, true, false, [], ◌∷◌, refl}
use Rattle.lexer.specs.declared.token.Kind.TheVariants as kind
use Rattle.syntax.specs.declared.name.Identifier.{Identifier}
use Rattle.parser.specs.Input.{same_kind}
use Rattle.parser.specs.Grammar as g
use Rattle.parser.specs.internal.Reading as r
use Rattle.parser.proofs.Laws.{Full}
use Rattle.parser.proofs.BindLaws.{bind_full}
use Rattle.parser.proofs.TakeLaws.{pure_full, take_full}
use Rattle.parser.proofs.ChoiceLaws.{branch_full, declared}
use Rattle.parser.proofs.ListLaws.{identifier_full, names_full, width_full, type_behind_full, several_full, separated_full}
use Rattle.parser.proofs.CommandLaws.{command_full}

-- ---- types

bits_full : Full r.bits r.bits g.bits g.bits (kind.Number ∷ []) false []
unfolding r.bits g.bits same_kind
bits_full = declared (bind_full width_full (λ given. pure_full _) refl) refl refl

enumeration_full : Full r.enumeration r.enumeration g.enumeration g.enumeration (kind.EnumerationWord ∷ []) false []
unfolding r.enumeration g.enumeration same_kind
enumeration_full = declared (bind_full (take_full _ _ refl refl) (λ _. bind_full names_full (λ elements. bind_full (take_full _ _ refl refl) (λ _. pure_full _) refl) refl) refl) refl refl

type_definition_full : Full r.type_definition r.type_definition g.type_definition g.type_definition (kind.Number ∷ kind.EnumerationWord ∷ []) false []
unfolding r.type_definition g.type_definition same_kind
type_definition_full = declared (branch_full _ bits_full.laws enumeration_full refl refl) refl refl

pub type_declaration_full : Full r.type_declaration r.type_declaration g.type_declaration g.type_declaration (kind.TypeWord ∷ []) false []
unfolding r.type_declaration g.type_declaration same_kind
type_declaration_full =
    declared
    (bind_full (take_full _ _ refl refl) (λ _. bind_full identifier_full (λ name. bind_full (take_full _ _ refl refl) (λ _. bind_full type_definition_full (λ given. pure_full _) refl) refl) refl) refl)
    refl refl

-- ---- ports

input_port_full : Full r.input_port r.input_port g.input_port g.input_port (kind.InputWord ∷ []) false []
unfolding r.input_port g.input_port same_kind
input_port_full = declared (bind_full (take_full _ _ refl refl) (λ _. bind_full names_full (λ names. bind_full type_behind_full (λ type. pure_full _) refl) refl) refl) refl refl

output_port_full : Full r.output_port r.output_port g.output_port g.output_port (kind.OutputWord ∷ []) false []
unfolding r.output_port g.output_port same_kind
output_port_full = declared (bind_full (take_full _ _ refl refl) (λ _. bind_full names_full (λ names. bind_full type_behind_full (λ type. pure_full _) refl) refl) refl) refl refl

sync_port_full : Full r.sync_port r.sync_port g.sync_port g.sync_port (kind.SyncWord ∷ []) false (kind.Comma ∷ [])
unfolding r.sync_port g.sync_port same_kind
sync_port_full = declared (bind_full (take_full _ _ refl refl) (λ _. bind_full names_full (λ names. pure_full _) refl) refl) refl refl

port_full : Full r.port_of r.port_of g.port_of g.port_of (kind.InputWord ∷ kind.OutputWord ∷ kind.SyncWord ∷ []) false (kind.Comma ∷ [])
unfolding r.port_of g.port_of same_kind
port_full = declared (branch_full _ input_port_full.laws (branch_full _ output_port_full.laws sync_port_full refl refl) refl refl) refl refl

port_list_full : Full r.port_list r.port_list g.port_list g.port_list (kind.LeftParenthesis ∷ []) false []
unfolding r.port_list g.port_list same_kind
port_list_full =
    declared (bind_full (take_full _ _ refl refl) (λ _. bind_full (separated_full port_full _ refl refl refl refl refl) (λ ports. bind_full (take_full _ _ refl refl) (λ _. pure_full _) refl) refl) refl) refl refl

ports_full : Full r.ports r.ports g.ports g.ports (kind.LeftParenthesis ∷ []) true (kind.LeftParenthesis ∷ [])
unfolding r.ports g.ports same_kind
ports_full = declared (branch_full _ port_list_full.laws (pure_full _) refl refl) refl refl

-- ---- locals

variables_full : Full r.variables r.variables g.variables g.variables (kind.VariableWord ∷ []) false []
unfolding r.variables g.variables same_kind
variables_full = declared (bind_full (take_full _ _ refl refl) (λ _. bind_full names_full (λ names. bind_full type_behind_full (λ type. pure_full _) refl) refl) refl) refl refl

shared_variables_full : Full r.shared_variables r.shared_variables g.shared_variables g.shared_variables (kind.SharedWord ∷ []) false []
unfolding r.shared_variables g.shared_variables same_kind
shared_variables_full =
    declared
    (bind_full (take_full _ _ refl refl) (λ _. bind_full (take_full _ _ refl refl) (λ _. bind_full names_full (λ names. bind_full type_behind_full (λ type. pure_full _) refl) refl) refl) refl)
    refl refl

channels_full : Full r.channels r.channels g.channels g.channels (kind.ChannelWord ∷ []) false []
unfolding r.channels g.channels same_kind
channels_full = declared (bind_full (take_full _ _ refl refl) (λ _. bind_full names_full (λ names. bind_full type_behind_full (λ type. pure_full _) refl) refl) refl) refl refl

syncs_full : Full r.syncs r.syncs g.syncs g.syncs (kind.SyncWord ∷ []) false (kind.Comma ∷ [])
unfolding r.syncs g.syncs same_kind
syncs_full = declared (bind_full (take_full _ _ refl refl) (λ _. bind_full names_full (λ names. pure_full _) refl) refl) refl refl

local_full : Full r.local_of r.local_of g.local_of g.local_of (kind.VariableWord ∷ kind.SharedWord ∷ kind.ChannelWord ∷ kind.SyncWord ∷ []) false (kind.Comma ∷ [])
unfolding r.local_of g.local_of same_kind
local_full =
    declared
    (branch_full _ variables_full.laws (branch_full _ shared_variables_full.laws (branch_full _ channels_full.laws syncs_full refl refl) refl refl) refl refl)
    refl refl

-- ---- procedures

block_full : (depth : ℕ) → Full (r.block depth) (r.block (suc depth)) (g.block depth) (g.block (suc depth)) (kind.BeginWord ∷ []) false []
unfolding r.block g.block same_kind
block_full depth =
    declared (bind_full (take_full _ _ refl refl) (λ _. bind_full (command_full depth) (λ held. bind_full (take_full _ _ refl refl) (λ _. pure_full _) refl) refl) refl) refl refl

procedure_of_full : (depth : ℕ) (name : Identifier) →
    Full (r.procedure_of depth name) (r.procedure_of (suc depth) name) (g.procedure_of depth name) (g.procedure_of (suc depth) name) (kind.LeftParenthesis ∷ kind.IsWord ∷ []) false []
unfolding r.procedure_of g.procedure_of same_kind
procedure_of_full depth name =
    declared
    (bind_full ports_full (λ ports. bind_full (take_full _ _ refl refl) (λ _. bind_full (several_full local_full _ refl refl refl _)
    (λ locals. bind_full (block_full depth) (λ held. pure_full _) refl) refl) refl) refl)
    refl refl

pub procedure_full : (depth : ℕ) → Full (r.procedure depth) (r.procedure (suc depth)) (g.procedure depth) (g.procedure (suc depth)) (kind.ProcedureWord ∷ []) false []
unfolding r.procedure g.procedure same_kind
procedure_full depth = declared (bind_full (take_full _ _ refl refl) (λ _. bind_full identifier_full (λ name. procedure_of_full depth name) refl) refl) refl refl

pub procedures_full : (depth : ℕ) → Full (r.procedures depth) (r.procedures (suc depth)) (g.procedures depth) (g.procedures (suc depth)) (kind.ProcedureWord ∷ []) false (kind.ProcedureWord ∷ [])
unfolding r.procedures g.procedures same_kind
procedures_full depth = declared (bind_full (procedure_full depth) (λ first. several_full (procedure_full depth) _ refl refl refl _) refl) refl refl

pub description_full :
    (depth : ℕ) → Full (r.description depth) (r.description (suc depth)) (g.description depth) (g.description (suc depth)) (kind.TypeWord ∷ kind.ProcedureWord ∷ []) false (kind.ProcedureWord ∷ [])
unfolding r.description g.description same_kind
description_full depth =
    declared (bind_full (several_full type_declaration_full _ refl refl refl _) (λ types. bind_full (procedures_full depth) (λ procedures. pure_full _) refl) refl) refl refl
