-- Each type and each expression has one width, and each operand in it.
use Rattle.types.proofs.TypeWidths.{types_once}
use Rattle.types.proofs.TypingLaws.{one_width}
use Rattle.types.proofs.WidthRules.{operands_once}
use Rattle.types.proofs.laws.expressions_have_one_width.Goals as goal

pub returns : goal.returns
returns c = record { types = types_once; whole = one_width; operands = operands_once }
