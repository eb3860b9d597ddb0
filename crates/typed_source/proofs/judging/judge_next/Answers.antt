use Rattle.std.proofs.Common.{◌≡◌, false, Err, rules}
use Rattle.typed_source.specs.internal.InParts.{IsNext}
use Rattle.typed_source.proofs.WholeLemmas.{refused_next, stands_next}
use Rattle.typed_source.proofs.judging.judge_next.Goals as goal

pub returns-in_err-next-clause-fault : goal.returns-in_err-next-clause-fault
returns-in_err-next-clause-fault c =
    let is : c.from_residual.result ≡ Err c.in_err-next.field-0.0 = search rules in
    λ source stands. rw is (refused_next source c.args.lexing.now c.args.typing.now c.in_err-next.field-0.0 stands c.in_err-next.ensures.fault)

pub returns-clause-judged : goal.returns-clause-judged
returns-clause-judged c = λ source stands.
    let next = c.in-Some.next in
    let read : IsNext false c.args.lexing.now next c.next_part.new.lexing = rw c.in-Some.is at c.in_ok-next.ensures.read in
    stands_next source c.args.lexing.now c.next_part.new.lexing next c.args.typing.now c.add.new.self stands read
    (λ d judged. rw c.as_slice.ensures at (c.in_ok-add.ensures.judged d judged))
