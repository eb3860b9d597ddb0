-- A reader behind which levels are closed.
use Rattle.std.proofs.Common.{ℕ, Result, Ok, Err, ap}
use Rattle.parser.specs.declared.halt.Halt.{Halt}
use Rattle.parser.specs.declared.halt.Halt.TheVariants.{Memory, Unexpected, TooDeep}
use Rattle.parser.specs.Input.{Input, input}
use Rattle.parser.specs.internal.Readers.{Outcome, read, and_then}
use Rattle.parser.specs.internal.Reads.{Reads}

pub closes : {A : Type 0} (levels : ℕ) (outcome : Outcome A) (result : Result A Halt) (new : Input) → Reads outcome result new
    → Reads (and_then outcome (λ a j. read a (input levels j.tokens))) result (input levels new.tokens)
closes levels outcome (Ok a) new reads = ap (λ o. and_then o (λ a j. read a (input levels j.tokens))) reads
closes levels outcome (Err Memory) new reads = tt
closes levels outcome (Err Unexpected) new reads = ap (λ o. and_then o (λ a j. read a (input levels j.tokens))) reads
closes levels outcome (Err TooDeep) new reads = ap (λ o. and_then o (λ a j. read a (input levels j.tokens))) reads
