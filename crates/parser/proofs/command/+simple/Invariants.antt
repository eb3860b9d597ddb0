use Rattle.parser.proofs.command.+simple.Given as goal

abbrev pub decreases-simple : goal.decreases-simple
decreases-simple l = l.depth
