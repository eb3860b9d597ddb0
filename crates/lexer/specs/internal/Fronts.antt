-- The piece at the front of a text, as it is found, and the fault that it is in itself.
-- No reader has to believe it: `proofs/ReadingLemmas.antt` ties it to `IsReadTo` of `Tokens.antt` and to `IsDueAt` of
-- `Refusal.antt`.
use Rattle.std.specs.Prelude.{◌≡◌, ℕ, ◌^◌, ◌<◌, ◌≤◌, if◌then◌else◌, length, take, drop, IsSome}
use Rattle.syntax.specs.Texts.{Text}
use Rattle.lexer.specs.Comment.{is_opening}
use Rattle.lexer.specs.Cut.{IsLongest}
use Rattle.lexer.specs.Spelling.{begins}
use Rattle.lexer.specs.Table.{symbol}
use Rattle.lexer.specs.Tokens.{value_of}
use Rattle.lexer.specs.declared.class.Class.{Class}
use Rattle.lexer.specs.declared.class.Class.TheVariants as class
use Rattle.refusals.specs.declared.lexer.Fault.{Fault}
use Rattle.refusals.specs.declared.lexer.Fault.TheVariants.{Memory, BadCharacter, OpenComment, NumberTooLarge}

-- the only class that a text with this beginning can have, where an open comment counts as a nested one
abbrev pub class_at : Text → Class
class_at text =
    if begins class.Blank text then class.Blank
    else (if begins class.Word text then class.Word
    else (if begins class.Number text then class.Number
    else (if begins class.LineComment text then class.LineComment
    else (if is_opening text then class.NestedComment
    else class.Symbol))))

-- no front of more than so many bytes is a symbol
abbrev pub NoSymbolBeyond : ℕ → Text → Type 0
NoSymbolBeyond n rest = (m : ℕ) → n < m → m ≤ length rest → ¬ IsSome (symbol (take m rest))

-- the first `n` bytes are the longest spelling at the front, and are of this class
abbrev pub IsFront : Class → ℕ → Text → Type 0
IsFront kind n rest = (n ≤ length rest) × IsLongest (record { class = kind; text = take n rest }) (drop n rest)

-- the fault that a piece at the offset is in itself
abbrev pub IsPieceFault : ℕ → Class → Text → Fault → Type 0
IsPieceFault at kind text Memory = ⊥
IsPieceFault at kind text (BadCharacter offset) = ⊥
IsPieceFault at kind text (OpenComment offset) = (offset ≡ at) × (kind ≡ class.OpenComment)
IsPieceFault at kind text (NumberTooLarge offset) = (offset ≡ at) × (kind ≡ class.Number) × (2 ^ 64 ≤ value_of text)
