use Rattle.std.proofs.Common.{arith}
use Rattle.parser.specs.internal.Reading.{factor}
use Rattle.parser.specs.internal.Reads.{place}
use Rattle.parser.proofs.Levels.{none_inside, factor_inside}
use Rattle.parser.proofs.expression.+factor.Goals as goal

pub returns-then-depth-eq0 : goal.returns-then-depth-eq0
returns-then-depth-eq0 t c = none_inside factor c.args.depth (place c.args.cursor.now) (omega arith)

pub returns : goal.returns
returns t c = rw (factor_inside c.args.depth (place c.args.cursor.now) (omega arith)) c.whole.ensures
