use Rattle.std.proofs.Common.{◌≡◌, ◌<◌, ◌≤◌, ◌+◌, suc, length, inl, inr, arith}
use Rattle.std.proofs.lemmas.Bool.{cases_lt}
use Rattle.dependence.proofs.MarkEnds.{ends-inside, cleared-kept}
use Rattle.dependence.proofs.public.Markings.{cleared-next}
use Rattle.dependence.proofs.marks.clear.Goals as goal

pub loop-index-init : goal.loop-index-init
loop-index-init c = record { low = c.requires.unmarked; high = c.requires.ended.none }

pub bounds-marks-index : goal.bounds-marks-index
bounds-marks-index c =
    let inside : c.args.end ≤ length c.args.marks.now = ends-inside c.args.marks.now c.args.end c.requires.ended in
    omega (arith, c.loop-index-test.true, c.loop-index.auto.marks)

pub loop-index-preserved : goal.loop-index-preserved
loop-index-preserved c =
    let inside : c.args.end ≤ length c.args.marks.now = ends-inside c.args.marks.now c.args.end c.requires.ended in
    let less : c.loop-index.index < length c.loop-index.marks = omega (arith, c.loop-index-test.true, c.loop-index.auto.marks) in
    let next : c.loop-index.index + 1 ≡ suc c.loop-index.index = omega arith in
    record {
      low = cleared-next c.loop-index.marks c.loop-index.index (c.loop-index.index + 1) next less c.loop-index.invariant.low;
      high = cleared-kept c.loop-index.marks c.loop-index.index c.args.end less c.loop-index.invariant.high;
    }

pub returns : goal.returns
returns c = λ i on.
    let past : c.args.end ≤ c.loop-index.index = c.loop-index-test.false in
    elim (cases_lt i c.args.end) [
      | inl before ↦ c.loop-index.invariant.low i (omega arith) on
      | inr behind ↦ c.loop-index.invariant.high i behind on
    ]
