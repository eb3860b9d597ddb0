use Rattle.std.proofs.Common.{length}
use Rattle.lexer.specs.internal.Parts.{HasRead}
use Rattle.lexer.proofs.lex.Given as goal

abbrev pub invariant-loop-tokens : goal.invariant-loop-tokens
invariant-loop-tokens l = HasRead l.source l.tokens.items l.lexing

abbrev pub decreases-loop-tokens : goal.decreases-loop-tokens
decreases-loop-tokens l = length l.lexing.rest.now
