use Rattle.std.proofs.Common.{◌≡◌, sym, ◌∙◌}
use Rattle.lexer.specs.internal.Fronts.{class_at, NoSymbolBeyond}
use Rattle.lexer.specs.declared.class.Class.TheVariants.{Blank, LineComment, Word, Number, Symbol}
use Rattle.lexer.proofs.PieceLemmas.{class_begins}
use Rattle.lexer.proofs.SymbolLemmas.{symbol_front, nothing_spelled}
use Rattle.lexer.proofs.piece.longest_piece.Goals as goal

pub run-requires : goal.run-requires
run-requires c = class_begins Blank c.args.rest.now (sym c.class_at.ensures ∙ c.in-Blank.is) (λ e. cc) (λ e. cc)

pub line_comment-requires : goal.line_comment-requires
line_comment-requires c = class_begins LineComment c.args.rest.now (sym c.class_at.ensures ∙ c.in-LineComment.is) (λ e. cc) (λ e. cc)

pub run-requires-in-Word : goal.run-requires-in-Word
run-requires-in-Word c = class_begins Word c.args.rest.now (sym c.class_at.ensures ∙ c.in-Word.is) (λ e. cc) (λ e. cc)

pub run-requires-in-Number : goal.run-requires-in-Number
run-requires-in-Number c = class_begins Number c.args.rest.now (sym c.class_at.ensures ∙ c.in-Number.is) (λ e. cc) (λ e. cc)

pub returns-in_err-length-in-Symbol : goal.returns-in_err-length-in-Symbol
returns-in_err-length-in-Symbol c =
    let shown : class_at c.args.rest.now ≡ Symbol = sym c.class_at.ensures ∙ c.in-Symbol.is in
    let none : NoSymbolBeyond 0 c.args.rest.now = c.in_err-length-in-Symbol.ensures in
    rw c.from_residual.ensures (nothing_spelled c.args.rest.now shown none)

pub returns-in_ok-length-in-Symbol : goal.returns-in_ok-length-in-Symbol
returns-in_ok-length-in-Symbol c =
    let shown : class_at c.args.rest.now ≡ Symbol = sym c.class_at.ensures ∙ c.in-Symbol.is in
    let found = c.in_ok-length-in-Symbol.ensures in
    symbol_front c.args.rest.now c.in_ok-length-in-Symbol.length shown found.0 found.1 found.2
