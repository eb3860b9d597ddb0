use Rattle.std.proofs.Common.{◌≢◌, ◌≤◌, [], length, refl, ap, arith}
use Rattle.std.proofs.lemmas.Bool.Decides.{nat_tests}
use Rattle.refusals.specs.declared.lexer.Fault.TheVariants.{BadCharacter}
use Rattle.lexer.proofs.ReadingLemmas.{reaches_fault}
use Rattle.lexer.proofs.lexing.Lexing.cut.Goals as goal

pub returns-in_default-clause-err : goal.returns-in_default-clause-err
returns-in_default-clause-err c source before read =
    let here = c.args.self.now in
    let some : 1 ≤ length here.rest.now = grind (arith, nat_tests) in
    let nonempty : here.rest.now ≢ [] = λ e. absurd (omega (arith, some, ap length e)) in
    reaches_fault source before here.position here.rest.now (BadCharacter here.position.offset) read (refl, nonempty, c.in_default.ensures)
