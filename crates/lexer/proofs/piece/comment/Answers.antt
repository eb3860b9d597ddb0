use Rattle.lexer.proofs.FrontLemmas.{comment_front, open_front}
use Rattle.lexer.proofs.piece.comment.Goals as goal

pub returns-in-Some : goal.returns-in-Some
returns-in-Some c = comment_front c.args.rest.now _ c.in-Some.ensures.0 c.in-Some.ensures.1

pub returns-in-None : goal.returns-in-None
returns-in-None c = open_front c.args.rest.now c.in-None.ensures
