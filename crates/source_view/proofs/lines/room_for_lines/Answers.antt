use Rattle.std.proofs.Common.{arith}
use Rattle.source_view.proofs.Cuts.{few-lines}
use Rattle.source_view.proofs.lines.room_for_lines.Goals as goal

pub returns : goal.returns
returns c = omega (arith, few-lines c.args.source.now)
