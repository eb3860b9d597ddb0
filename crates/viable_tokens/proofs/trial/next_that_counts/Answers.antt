use Rattle.std.proofs.Common.{subst}
use Rattle.std.proofs.lemmas.List.{take_rest}
use Rattle.lexer.specs.internal.Parts.{BeginsProcedure}
use Rattle.viable_tokens.proofs.Parts.{counts_on}
use Rattle.viable_tokens.proofs.trial.next_that_counts.Goals as goal

pub returns-clause-counts : goal.returns-clause-counts
returns-clause-counts c =
    counts_on _ _ _ c.requires.order c.requires.counts (c.in_ok-is_whole.ensures (let b = c.if-not-is_whole.false in cc))
    (subst BeginsProcedure (take_rest c.args.tokens.now c.args.index)
    (c.begins_procedure.ensures (let b = c.if-not-begins_procedure.false in cc)))
