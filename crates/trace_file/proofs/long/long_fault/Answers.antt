use Rattle.std.proofs.Common.{inl, inr, refl}
use Rattle.trace_file.proofs.LongLemmas.{other-place}
use Rattle.trace_file.proofs.long.long_fault.Goals as goal

pub returns-in_default : goal.returns-in_default
returns-in_default c = (refl, inl c.in_default.ensures)

pub returns-then-not-is_place : goal.returns-then-not-is_place
returns-then-not-is_place c = (refl, inr (other-place c.args.place.now c.is_place.result c.is_place.ensures c.if-not-is_place.true))

pub returns : goal.returns
returns c = (refl, (c.in-Some.field-0, c.in-Some.ensures), c.is_place.ensures.0 c.if-not-is_place.false)
