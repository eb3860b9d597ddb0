use Rattle.trace_file.proofs.LineLemmas.{arm-read}
use Rattle.trace_file.proofs.line.read_arm.Goals as goal

pub returns : goal.returns
returns c = arm-read c.args.text.now c.in_ok-read_number.field-0 c.narrow.result c.in_ok-read_number.ensures c.narrow.ensures
