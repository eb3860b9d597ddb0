use Rattle.run_depths.proofs.HeldLaws.{longer-on}
use Rattle.run_depths.proofs.held.longer.Goals as goal

pub returns-then-index-reach-lt-LONGEST-clause-most : goal.returns-then-index-reach-lt-LONGEST-clause-most
returns-then-index-reach-lt-LONGEST-clause-most c = λ ps p at is over.
    longer-on ps c.args.reach.first c.args.index c.args.reach.most c.args.behind c.larger.result p c.requires at is over c.larger.ensures
