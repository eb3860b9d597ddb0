use Rattle.lexer.proofs.piece.blanks_length.Goals as goal

pub returns-then-is_blank : goal.returns-then-is_blank
returns-then-is_blank c = rw c.run.ensures.class at c.run.ensures.front
