-- What a reading that stops is answered by.
use Rattle.std.proofs.Common.{◌≡◌, ℕ, List, Err}
use Rattle.lexer.specs.declared.token.Token.{Token}
use Rattle.parser.specs.declared.halt.Halt.{Halt}
use Rattle.parser.specs.declared.halt.Halt.TheVariants.{Memory, Unexpected, TooDeep}
use Rattle.parser.specs.internal.Answer.{IsAnswer, fault_at}
use Rattle.parser.specs.Offsets.{offset_at}
use Rattle.parser.specs.internal.Readers.{Outcome}
use Rattle.parser.specs.internal.Reads.{Halts}

pub halted_answer : {A : Type 0} (tokens rest : List Token) (outcome : Outcome A) (halt : Halt) (offset : ℕ)
    → Halts halt rest outcome → offset ≡ offset_at tokens rest → IsAnswer tokens outcome (Err (fault_at halt offset))
halted_answer tokens rest outcome Memory offset halts there = tt
halted_answer tokens rest outcome Unexpected offset halts there = (rest, halts, there)
halted_answer tokens rest outcome TooDeep offset halts there = (rest, halts, there)
