use Rattle.line_text.proofs.public.NumberLemmas.{variable-read}
use Rattle.line_text.proofs.operands.read_variable.Goals as goal

pub returns : goal.returns
returns c =
    variable-read c.args.system.now c.args.rest.now c.in_ok-behind_space.field-0.now c.variable.result c.in_ok-behind_space.ensures c.variable.ensures
