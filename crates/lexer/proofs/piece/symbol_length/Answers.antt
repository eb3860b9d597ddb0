use Rattle.std.proofs.Common.{sym, ◌∙◌}
use Rattle.lexer.proofs.SymbolLemmas.{symbol_there, none_beyond_two, none_beyond_less}
use Rattle.lexer.proofs.piece.symbol_length.Goals as goal

pub returns-then-has_symbol : goal.returns-then-has_symbol
returns-then-has_symbol c =
    let there = symbol_there c.args.rest.now 2 (sym c.has_symbol.ensures ∙ c.if-has_symbol.true) in
    (there.0, there.1, none_beyond_two c.args.rest.now)

pub returns-then-has_symbol-2 : goal.returns-then-has_symbol-2
returns-then-has_symbol-2 c =
    let there = symbol_there c.args.rest.now 1 (sym c.has_symbol-else-has_symbol.ensures ∙ c.if-has_symbol-2.true) in
    (there.0, there.1, none_beyond_less c.args.rest.now 1 (sym c.has_symbol.ensures ∙ c.if-has_symbol.false) (none_beyond_two c.args.rest.now))

pub returns-else-has_symbol-2 : goal.returns-else-has_symbol-2
returns-else-has_symbol-2 c =
    let rest = c.args.rest.now in
    none_beyond_less rest 0 (sym c.has_symbol-else-has_symbol.ensures ∙ c.if-has_symbol-2.false)
    (none_beyond_less rest 1 (sym c.has_symbol.ensures ∙ c.if-has_symbol.false) (none_beyond_two rest))
