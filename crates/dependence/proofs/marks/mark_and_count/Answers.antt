use Rattle.runs.specs.Live.{same}
use Rattle.dependence.proofs.marks.mark_and_count.Goals as goal

pub count_marked-requires-clause-marked : goal.count_marked-requires-clause-marked
count_marked-requires-clause-marked c =
    (c.mark_dependents-behind.ensures.marked.exactly c.args.ticket).1 (c.requires.live.0, c.requires.live.1, same)
