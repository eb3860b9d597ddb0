-- What only the source tells of a description.
use Rattle.std.specs.Prelude.{◌≡◌, ℕ, List, map}
use Rattle.lexer.specs.Tokens.{AreTokens}
use Rattle.lexer.specs.declared.token.Token.{Token}
use Rattle.system.specs.declared.system.Channel.{Channel}
use Rattle.system.specs.declared.system.System.{System}
use Rattle.types.specs.declared.tree.Procedure.{Procedure}
use Rattle.described.specs.Enumerations.{enumerations_of}
use Rattle.described.specs.Lines.{lines_at}
use Rattle.described.specs.Telling.{found_in}
use Rattle.described.specs.declared.Described.{Described}

-- where each channel of the system is declared
abbrev pub declared_in : System → List ℕ
declared_in system = map (λ (c : Channel). c.declared) system.channels

-- this is what the source tells, whose procedures these are, and which was made the system
pub record Describes (source : List ℕ) (procedures : List Procedure) (system : System) (d : Described) : Type 0 where
  pub calls : d.calls ≡ (found_in procedures).calls
  pub deeper : d.deeper ≡ (found_in procedures).deeper
  pub variables : d.variable_lines.items ≡ lines_at source (found_in procedures).variables
  pub channels : d.channel_lines.items ≡ lines_at source (declared_in system)
  pub enumerations : (tokens : List Token) → AreTokens source tokens → d.enumerations ≡ enumerations_of tokens
