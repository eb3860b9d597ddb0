-- What stands inside a level: the readers there, and the function values that are to be such readers.
-- No reader has to believe it: `proofs/Levels.antt` ties these readers to those of `internal/Reading.antt`, and
-- `proofs/Parsed.antt` those to the grammar.
use Rattle.std.specs.Prelude.{ℕ, zero, suc, Result}
use denote.Ref.{MutBor}
use Rattle.syntax.specs.declared.expression.Expr.{Expr}
use Rattle.syntax.specs.declared.command.Command.{Command}
use Rattle.parser.specs.declared.cursor.Cursor.{Cursor}
use Rattle.parser.specs.declared.halt.Halt.{Halt}
use Rattle.parser.specs.internal.Readers.{Reader, nothing}
use Rattle.parser.specs.internal.Reading.{factor, expression_of, simple, command_of}
use Rattle.parser.specs.internal.Reads.{place, Reads}

-- what is read inside a level of this depth; inside the last one there is nothing
abbrev pub inner : {A : Type 0} → (ℕ → Reader A) → ℕ → Reader A
inner reader zero = nothing
inner reader (suc depth) = reader depth

abbrev pub factor_in : ℕ → Reader Expr
factor_in depth = inner factor depth

abbrev pub expression_in : ℕ → Reader Expr
expression_in depth = expression_of depth (factor_in depth)

abbrev pub simple_in : ℕ → Reader Command
simple_in depth = inner simple depth

abbrev pub command_in : ℕ → Reader Command
command_in depth = command_of (simple_in depth)

-- the function value may be called with any cursor at the depth, and is this reader there
pub record ReadsAt {A : Type 0} (depth : ℕ) (reader : Reader A) (pre : MutBor Cursor → ℕ → Type 0)
    (post : MutBor Cursor → ℕ → Result A Halt → MutBor Cursor → Type 0) : Type 0 where
  pub callable : (cursor : MutBor Cursor) → pre cursor depth
  pub reads : (old new : MutBor Cursor) (result : Result A Halt) → post old depth result new
      → Reads (reader (place old.now)) result (place new.now)
