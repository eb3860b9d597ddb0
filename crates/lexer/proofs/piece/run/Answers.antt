use Rattle.lexer.proofs.FrontLemmas.{run_front}
use Rattle.lexer.proofs.piece.run.Goals as goal

pub returns-clause-front : goal.returns-clause-front
returns-clause-front c = rw c.run_length.ensures.value (run_front c.args.class c.args.rest.now c.requires)
