-- What `parse` answers, by how the description is read.
-- No reader has to believe it: `proofs/Answered.antt` ties it to `Parses` and `IsRefused` of `Accepted.antt`, of which
-- the clauses of `parse` speak.
use Rattle.std.specs.Prelude.{◌≡◌, ℕ, List, [], ◌∷◌, Option, Some, None, Result, Ok, Err}
use Rattle.lexer.specs.declared.token.Token.{Token}
use Rattle.refusals.specs.declared.parser.Fault.{Fault}
use Rattle.refusals.specs.declared.parser.Fault.TheVariants.{Memory, Unexpected, TooDeep}
use Rattle.parser.specs.declared.halt.Halt.{Halt}
use Rattle.parser.specs.declared.halt.Halt.TheVariants as halt
use Rattle.parser.specs.Input.{Input}
use Rattle.parser.specs.Offsets.{offset_at}
use Rattle.parser.specs.internal.Readers.{Outcome, read, unexpected, too_deep}

-- the answer is what was read, or where reading stopped, unless memory is out
abbrev pub IsAnswer : {A : Type 0} → List Token → Outcome A → Result A Fault → Type 0
IsAnswer tokens outcome (Ok a) = (left : Input) × (outcome ≡ read a left)
IsAnswer tokens outcome (Err Memory) = Unit {0}
IsAnswer tokens outcome (Err (Unexpected offset)) =
    (rest : List Token) × (outcome ≡ unexpected rest) × (offset ≡ offset_at tokens rest)
IsAnswer tokens outcome (Err (TooDeep offset)) =
    (rest : List Token) × (outcome ≡ too_deep rest) × (offset ≡ offset_at tokens rest)

-- the fault that a reading which stops is, where the offset is this
abbrev pub fault_at : Halt → ℕ → Fault
fault_at halt.Memory offset = Memory
fault_at halt.Unexpected offset = Unexpected offset
fault_at halt.TooDeep offset = TooDeep offset

-- the fault of a reading that stops before these tokens; where none is left there is none, unless memory is out
abbrev pub fault_before : Halt → List Token → Option Fault
fault_before halt.Memory rest = Some Memory
fault_before halt.Unexpected [] = None
fault_before halt.Unexpected (token ∷ rest) = Some (Unexpected token.span.start)
fault_before halt.TooDeep [] = None
fault_before halt.TooDeep (token ∷ rest) = Some (TooDeep token.span.start)
