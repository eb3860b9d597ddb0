use Rattle.std.proofs.Common.{◌≡◌, ◌-◌}
use Rattle.parser.specs.internal.Readers.{repeat_from}
use Rattle.parser.specs.internal.Reading.{grouped, operation}
use Rattle.parser.specs.internal.Reads.{place}
use Rattle.parser.proofs.expression.GroupedRule.read.Given as goal

abbrev pub invariant-loop-turn : goal.invariant-loop-turn
invariant-loop-turn g l =
    grouped l.self.depth l.self.signs.now (g.R.Rule.reader l.self.operand.now) (place l.fn.cursor)
    ≡ repeat_from l.self.signs.now (operation l.self.depth l.self.signs.now (g.R.Rule.reader l.self.operand.now)) (l._turn-end - l._turn) l.left (place l.cursor)
