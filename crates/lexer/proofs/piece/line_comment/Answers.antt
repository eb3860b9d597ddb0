use Rattle.lexer.specs.declared.class.Class.TheVariants.{LineComment}
use Rattle.lexer.proofs.FrontLemmas.{run_front}
use Rattle.lexer.proofs.piece.line_comment.Goals as goal

pub returns : goal.returns
returns c = rw c.line_length.ensures.value (run_front LineComment c.args.rest.now c.requires)
