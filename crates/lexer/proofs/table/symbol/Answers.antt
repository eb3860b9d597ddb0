use Rattle.std.proofs.Common.{arith}
use Rattle.lexer.proofs.SymbolLemmas.{symbol_facts}
use Rattle.lexer.proofs.BucketLemmas.{not_found}
use Rattle.lexer.specs.Table.{symbol}
use Rattle.lexer.proofs.table.symbol.Goals as goal

pub returns-in_default : goal.returns-in_default
returns-in_default c = not_found (symbol c.args.text.now) (λ found. absurd (omega (arith, c.in_default.len_below, (symbol_facts c.args.text.now found).some)))

pub returns-in_default-2 : goal.returns-in_default-2
returns-in_default-2 c = not_found (symbol c.args.text.now) (λ found. absurd (omega (arith, c.in_default.len_at_least, (symbol_facts c.args.text.now found).few)))
