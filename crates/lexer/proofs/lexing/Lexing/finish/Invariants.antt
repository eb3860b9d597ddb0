use Rattle.std.proofs.Common.{List, length}
use Rattle.lexer.specs.internal.Parts.{Goes}
use Rattle.lexer.specs.declared.token.Token.{Token}
use Rattle.lexer.proofs.lexing.Lexing.finish.Given as goal

abbrev pub invariant-loop-found : goal.invariant-loop-found
invariant-loop-found l = (read : List Token) × Goes l.fn.self read l.self

abbrev pub decreases-loop-found : goal.decreases-loop-found
decreases-loop-found l = length l.self.rest.now
