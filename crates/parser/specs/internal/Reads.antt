-- What a function that reads says: its answer and its cursor are those of a reader, unless memory fails.
-- No reader has to believe it: contracts of private functions alone speak of it, and `proofs/Parsed.antt` ties the
-- readers to the clauses of `parse`.
use Rattle.std.specs.Prelude.{◌≡◌, List, Result, Ok, Err}
use denote.Ref.{Bor}
use Rattle.lexer.specs.declared.token.Token.{Token}
use Rattle.parser.specs.declared.cursor.Cursor.{Cursor}
use Rattle.parser.specs.declared.halt.Halt.{Halt}
use Rattle.parser.specs.declared.halt.Halt.TheVariants.{Memory, Unexpected, TooDeep}
use Rattle.parser.specs.Input.{Input, input}
use Rattle.parser.specs.internal.Readers.{Outcome, read, unexpected, too_deep}

-- where a cursor stands
abbrev pub place : Cursor → Input
place cursor = input cursor.levels cursor.rest.now

-- how a function that found no answer stands to a reader. Want of memory says nothing.
abbrev pub Halts : {A : Type 0} → Halt → List Token → Outcome A → Type 0
Halts Memory rest outcome = Unit {0}
Halts Unexpected rest outcome = outcome ≡ unexpected rest
Halts TooDeep rest outcome = outcome ≡ too_deep rest

-- the value, or where it stopped
abbrev pub Reads : {A : Type 0} → Outcome A → Result A Halt → Input → Type 0
Reads outcome (Ok a) new = outcome ≡ read a new
Reads outcome (Err halt) new = Halts halt new.tokens outcome

-- the same, where the value is lent
abbrev pub Lends : {A : Type 0} → Outcome A → Result (Bor A) Halt → Input → Type 0
Lends outcome (Ok a) new = outcome ≡ read a.now new
Lends outcome (Err halt) new = Halts halt new.tokens outcome

-- the same, where the value was built in place
abbrev pub Builds : {A : Type 0} → Outcome A → A → Result (Unit {0}) Halt → Input → Type 0
Builds outcome built (Ok u) new = outcome ≡ read built new
Builds outcome built (Err halt) new = Halts halt new.tokens outcome
