use Rattle.std.proofs.Common.{arith, codes}
use Rattle.std.specs.Str.Parse.{ParsesUnsigned, ExplainsUnsignedError, HasUnsignedDigitsIfOk}
use Rattle.clap.specs.Words.{found_of}
use Rattle.command_words.specs.internal.Building.{rows_in}
use Rattle.command_words.proofs.WordLemmas.{no_number, number_is_small, number_of_row, page_told}
use Rattle.command_words.proofs.asked.page_asked.Goals as goal

pub returns-in_err-number : goal.returns-in_err-number
returns-in_err-number c = rw c.from_residual.ensures (λ page tells.
    no_number 32 (λ bs r. ParsesUnsigned 32 10 bs r × ExplainsUnsignedError 10 bs r × HasUnsignedDigitsIfOk bs r)
    (found_of c.args.words.now) (codes "N") c.get_one.result c.get_one.ensures.value (λ u e g. g.0)
    c.in_err-number.was page.number tells.0 (omega (arith, number_is_small page.number tells.1)))

pub returns : goal.returns
returns c = page_told (rows_in c.args.words.now) c.in_ok-number.number c.page_of.result c.page_of.ensures.each
    c.page_of.ensures.right
    (number_of_row (λ bs r. ParsesUnsigned 32 10 bs r × ExplainsUnsignedError 10 bs r × HasUnsignedDigitsIfOk bs r)
    (found_of c.args.words.now) (codes "N") c.get_one.result c.in_ok-number.number c.get_one.ensures.none
    c.get_one.ensures.value (λ u x g. (g.0.0.0, g.0.1)) c.in_ok-number.was)
