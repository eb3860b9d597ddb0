use Rattle.std.proofs.Common.{rules}
use Rattle.lexer.specs.Table.{reserved_word}
use Rattle.lexer.proofs.table.reserved_word.Goals as goal

pub returns-in-empty : goal.returns-in-empty
unfolding reserved_word
returns-in-empty c = search rules
