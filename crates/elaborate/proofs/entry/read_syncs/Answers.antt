use Rattle.elaborate.proofs.Entries.{no_given-syncs}
use Rattle.elaborate.proofs.Numbers.{no_syncs-large}
use Rattle.elaborate.proofs.entry.read_syncs.Goals as goal

pub returns-else-number-le-MOST_SYNCS : goal.returns-else-number-le-MOST_SYNCS
returns-else-number-le-MOST_SYNCS c =
    no_given-syncs c.args.digits.now (no_syncs-large c.args.digits.now c.in-Some.number c.in-Some.ensures c.if-number-le-MOST_SYNCS.false)
