use Rattle.std.proofs.Common.{◌∙◌, ℕ, ◌-◌, ◌<◌, length, Some, Bool, ap, arith}
use Rattle.std.proofs.lemmas.Option.{slice_get-get_or}
use Rattle.dependence.proofs.public.Markings.{none-marked}
use Rattle.dependence.proofs.marks.end_below.Goals as goal

pub returns-then-marks-left : goal.returns-then-marks-left
returns-then-marks-left c =
    let p : ℕ = c.loop-left.left - 1 in
    let less : p < length c.args.marks.now = omega arith in
    record {
      none = c.loop-left.invariant.none;
      last = λ some. slice_get-get_or c.args.marks.now p _ less ∙ ap (λ (b : Bool). Some b) c.if-marks-left.true;
    }

pub loop-left-preserved : goal.loop-left-preserved
loop-left-preserved c =
    let p : ℕ = c.loop-left.left - 1 in
    let less : p < length c.args.marks.now = omega arith in
    record {
      within = omega arith;
      none = none-marked c.args.marks.now p less c.if-marks-left.false (λ k up on. c.loop-left.invariant.none k (omega arith) on);
    }

pub returns : goal.returns
returns c = record { none = λ k up on. c.loop-left.invariant.none k (omega arith) on; last = λ some. absurd (omega arith) }
