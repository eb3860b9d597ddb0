use Rattle.std.proofs.Common.{◌≡◌, ◌-◌}
use Rattle.parser.specs.internal.Readers.{repeat_from}
use Rattle.parser.specs.internal.Reading.{several, one_more}
use Rattle.parser.specs.internal.Reads.{place}
use Rattle.parser.proofs.list.several.Given as goal

abbrev pub invariant-loop-turn : goal.invariant-loop-turn
invariant-loop-turn g l =
    several l.fn.kinds (g.R.Rule.reader l.fn.rule) l.fn.items (place l.fn.cursor)
    ≡ repeat_from l.fn.kinds (one_more (g.R.Rule.reader l.fn.rule)) (l._turn-end - l._turn) l.items (place l.cursor)
