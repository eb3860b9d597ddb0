use Rattle.std.proofs.Common.{sym, ◌∙◌, eqb-true}
use Rattle.trace_file.proofs.LineLemmas.{no-step-arm, no-step-root, no-step-place, nil-by-length}
use Rattle.trace_file.proofs.line.read_choice.Goals as goal

pub returns-in_default : goal.returns-in_default
returns-in_default c = λ text after f. no-step-arm text c.args.place.now c.args.arm.now after f c.in_default.ensures

pub returns-then-is_empty : goal.returns-then-is_empty
returns-then-is_empty c = λ text after f.
    no-step-root text c.args.place.now c.args.arm.now after f
    (nil-by-length c.args.place.now (eqb-true _ _ (sym c.is_empty.ensures ∙ c.if-is_empty.true)))

pub returns-in_default-2 : goal.returns-in_default-2
returns-in_default-2 c = λ text after f.
    no-step-place text c.args.place.now c.args.arm.now after f (rw c.in_default-2.is at c.in_ok-place.ensures)
