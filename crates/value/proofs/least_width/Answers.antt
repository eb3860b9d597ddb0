-- The number has as many binary digits as are left below its leading zeros.
use Rattle.std.proofs.Common.{rules}
use Rattle.value.specs.Word.{least_width_of}
use Rattle.value.proofs.Words.{least_width_of-fits, least_width_of-least}
use Rattle.value.proofs.least_width.Goals as goal

pub returns-clause-value : goal.returns-clause-value
unfolding least_width_of
returns-clause-value c = search rules

pub returns-clause-fits : goal.returns-clause-fits
returns-clause-fits c = rw (returns-clause-value c) (least_width_of-fits c.args.n c.ranges.n.fits)

pub returns-clause-least : goal.returns-clause-least
returns-clause-least c = rw (returns-clause-value c) (least_width_of-least c.args.n c.ranges.n.fits)
