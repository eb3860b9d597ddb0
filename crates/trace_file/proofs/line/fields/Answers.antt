use Rattle.trace_file.proofs.LineLemmas.{no-fields-space, no-fields-end, the-fields}
use Rattle.trace_file.proofs.line.fields.Goals as goal

pub returns-in_err-place : goal.returns-in_err-place
returns-in_err-place c =
    rw c.from_residual-in_err-place.ensures
    (no-fields-space c.args.text.now c.in_ok-behind_word.field-0.now c.in_ok-behind_word.ensures c.in_err-place.ensures)

pub returns-in_err-arm : goal.returns-in_err-arm
returns-in_err-arm c =
    rw c.from_residual-in_err-arm.ensures
    (no-fields-end c.args.text.now c.in_ok-behind_word.field-0.now c.in_ok-place.place.now c.in_ok-place.behind_place.now
    c.in_ok-behind_word.ensures c.in_ok-place.ensures c.in_err-arm.ensures)

pub returns : goal.returns
returns c =
    the-fields c.args.text.now c.in_ok-behind_word.field-0.now c.in_ok-place.place.now c.in_ok-place.behind_place.now
    c.in_ok-arm.arm.now c.in_ok-arm.after.now c.in_ok-behind_word.ensures c.in_ok-place.ensures c.in_ok-arm.ensures
