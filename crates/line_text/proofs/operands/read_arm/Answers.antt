use Rattle.line_text.proofs.public.NumberLemmas.{arm-read}
use Rattle.line_text.proofs.operands.read_arm.Goals as goal

pub returns : goal.returns
returns c =
    arm-read c.args.rest.now c.in_ok-behind_space.field-0.now c.in_ok-number.number c.narrow.result
    c.in_ok-behind_space.ensures c.in_ok-number.ensures c.narrow.ensures
