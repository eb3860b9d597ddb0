use Rattle.std.proofs.Common.{arith}
use Rattle.parser.specs.internal.Reading.{simple}
use Rattle.parser.specs.internal.Reads.{place}
use Rattle.parser.proofs.Levels.{none_inside, simple_inside}
use Rattle.parser.proofs.command.+simple.Goals as goal

pub returns-then-depth-eq0 : goal.returns-then-depth-eq0
returns-then-depth-eq0 t c = none_inside simple c.args.depth (place c.args.cursor.now) (omega arith)

pub returns : goal.returns
returns t c = rw (simple_inside c.args.depth (place c.args.cursor.now) (omega arith)) c.whole.ensures
