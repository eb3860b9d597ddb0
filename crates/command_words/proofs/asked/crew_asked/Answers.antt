use Rattle.std.proofs.Common.{arith, codes}
use Rattle.std.specs.Str.Parse.{ParsesUnsigned, ExplainsUnsignedError, HasUnsignedDigitsIfOk}
use Rattle.clap.specs.Words.{found_of}
use Rattle.command_words.specs.internal.Building.{rows_in}
use Rattle.command_words.proofs.WordLemmas.{number_of_row, no_number, crew_told}
use Rattle.command_words.proofs.asked.crew_asked.Goals as goal

pub returns-in_err-workers : goal.returns-in_err-workers
returns-in_err-workers c = rw c.from_residual.ensures (λ crew tells.
    no_number 32 (λ bs r. ParsesUnsigned 32 10 bs r × ExplainsUnsignedError 10 bs r × HasUnsignedDigitsIfOk bs r)
    (found_of c.args.words.now) (codes "workers") c.get_one.result c.get_one.ensures.value (λ u e g. g.0)
    c.in_err-workers.was crew.workers tells.0 (omega (arith, crew.few)))

pub returns-in_err-turns : goal.returns-in_err-turns
returns-in_err-turns c = rw c.from_residual-in_err-turns.ensures (λ crew tells.
    no_number 64 (λ bs r. ParsesUnsigned 64 10 bs r × ExplainsUnsignedError 10 bs r × HasUnsignedDigitsIfOk bs r)
    (found_of c.args.words.now) (codes "turns") c.get_one-2.result c.get_one-2.ensures.value (λ u e g. g.0)
    c.in_err-turns.was crew.turns tells.1 (omega (arith, crew.short)))

pub returns : goal.returns
returns c = crew_told (rows_in c.args.words.now) c.in_ok-workers.workers c.in_ok-turns.turns c.new.result c.new.ensures
    (number_of_row (λ bs r. ParsesUnsigned 32 10 bs r × ExplainsUnsignedError 10 bs r × HasUnsignedDigitsIfOk bs r)
    (found_of c.args.words.now) (codes "workers") c.get_one.result c.in_ok-workers.workers c.get_one.ensures.none
    c.get_one.ensures.value (λ u x g. (g.0.0.0, g.0.1)) c.in_ok-workers.was)
    (number_of_row (λ bs r. ParsesUnsigned 64 10 bs r × ExplainsUnsignedError 10 bs r × HasUnsignedDigitsIfOk bs r)
    (found_of c.args.words.now) (codes "turns") c.get_one-2.result c.in_ok-turns.turns c.get_one-2.ensures.none
    c.get_one-2.ensures.value (λ u x g. (g.0.0.0, g.0.1)) c.in_ok-turns.was)
