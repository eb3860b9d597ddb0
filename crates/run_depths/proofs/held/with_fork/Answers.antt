use Rattle.std.proofs.Common.{sym, ◌∙◌}
use Rattle.run_depths.proofs.HeldLaws.{branch-at, fork-branch}
use Rattle.run_depths.proofs.held.with_fork.Goals as goal

pub with_sequence-requires-clause-ordered : goal.with_sequence-requires-clause-ordered
with_sequence-requires-clause-ordered c = sym c.is_ordered.ensures ∙ c.if-is_ordered.true

pub returns : goal.returns
returns c =
    let at = branch-at c.args.entries.now c.args.index c.requires.inside (sym c.is_ordered.ensures ∙ c.if-is_ordered.false) in
    fork-branch c.args.held.now.places.items c.args.entries.now c.args.index at.0 c.args.since at.1 c.requires.known
