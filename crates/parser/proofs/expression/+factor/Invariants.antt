use Rattle.parser.proofs.expression.+factor.Given as goal

abbrev pub decreases-factor : goal.decreases-factor
decreases-factor l = l.depth
