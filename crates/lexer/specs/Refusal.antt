-- Where a source is refused, and why.
use Rattle.std.specs.Prelude.{◌≡◌, ◌≢◌, ℕ, ◌^◌, ◌≤◌, List, [], ◌++◌, length}
use Rattle.syntax.specs.Texts.{Text}
use Rattle.lexer.specs.Cut.{Piece, joined, IsLongest}
use Rattle.lexer.specs.Spelling.{Spells, NothingSpelled}
use Rattle.lexer.specs.Tokens.{IsReadTo, value_of}
use Rattle.lexer.specs.declared.class.Class.TheVariants as class
use Rattle.refusals.specs.declared.lexer.Fault.{Fault}
use Rattle.refusals.specs.declared.lexer.Fault.TheVariants.{Memory, BadCharacter, OpenComment, NumberTooLarge}

-- the number is the longest piece at the front, and 2^64 or more
pub record BeginsTooLarge (rest : Text) : Type 0 where
  pub number : Text
  pub after : Text
  pub front : rest ≡ number ++ after
  pub piece : IsLongest (record { class = class.Number; text = number }) after
  pub large : 2 ^ 64 ≤ value_of number

-- the fault is due at the offset, where `rest` begins
abbrev pub IsDueAt : ℕ → Text → Fault → Type 0
IsDueAt at rest Memory = ⊥
IsDueAt at rest (BadCharacter offset) = (offset ≡ at) × (rest ≢ []) × NothingSpelled rest
IsDueAt at rest (OpenComment offset) = (offset ≡ at) × Spells class.OpenComment rest
IsDueAt at rest (NumberTooLarge offset) = (offset ≡ at) × BeginsTooLarge rest

-- the source is cut into readable pieces up to where the fault is due
abbrev pub IsRefused : Text → Fault → Type 0
IsRefused source fault =
    (pieces : List Piece) × (rest : Text) × IsReadTo source pieces rest × IsDueAt (length (joined pieces)) rest fault
