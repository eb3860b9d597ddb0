use Rattle.std.proofs.Common.{◌≡◌, false, Err, rules}
use Rattle.typed_source.specs.internal.InParts.{Stands}
use Rattle.typed_source.proofs.typed_from.Goals as goal

pub returns-in_err-is_end-clause-fault : goal.returns-in_err-is_end-clause-fault
returns-in_err-is_end-clause-fault c =
    let is : c.from_residual-in_err-is_end.result ≡ Err c.in_err-is_end.field-0.0 = search rules in
    let more : c.loop-is_last.is_last ≡ false = let b = c.loop-is_last-test.true in cc in
    let stands : Stands c.args.source.now false c.loop-is_last.lexing c.loop-is_last.typing = rw more at c.loop-is_last.invariant in
    rw is (c.in_err-is_end.ensures.fault c.args.source.now stands)
