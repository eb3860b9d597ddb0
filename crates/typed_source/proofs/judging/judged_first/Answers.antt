use Rattle.std.proofs.Common.{◌≡◌, true, Err, rules}
use Rattle.typed_source.specs.internal.InParts.{IsNext}
use Rattle.typed_source.proofs.WholeLemmas.{refused_first, stands_first}
use Rattle.typed_source.proofs.judging.judged_first.Goals as goal

pub returns-in_err-first-clause-fault : goal.returns-in_err-first-clause-fault
returns-in_err-first-clause-fault c =
    let is : c.from_residual.result ≡ Err c.in_err-first.field-0.0 = search rules in
    λ source read. rw is (refused_first source c.args.lexing.now c.in_err-first.field-0.0 read c.in_err-first.ensures.fault)

pub returns-clause-judged : goal.returns-clause-judged
returns-clause-judged c = λ source read.
    let first = c.in-Some.first in
    let next : IsNext true c.args.lexing.now first c.next_part.new.lexing = rw c.in-Some.is at c.in_ok-first.ensures.read in
    stands_first source c.args.lexing.now c.next_part.new.lexing first c.in_ok-typing.typing read next c.in_ok-typing.ensures
