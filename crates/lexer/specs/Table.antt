-- The reserved words and the symbols.
use Rattle.std.specs.Prelude.{if◌then◌else◌, nat_eq, List, [], ◌∷◌, codes, Option, Some, None}
use Rattle.std.specs.Cmp.Lexicographic.{pointwise}
use Rattle.syntax.specs.Texts.{Text}
use Rattle.lexer.specs.declared.token.Kind.{Kind}
use Rattle.lexer.specs.declared.token.Kind.TheVariants as kind

-- the kind beside a text in a table
abbrev pub lookup : List (Text × Kind) → Text → Option Kind
lookup [] text = None
lookup (entry ∷ entries) text = if pointwise nat_eq entry.0 text then Some entry.1 else lookup entries text

-- the reserved words
abbrev pub reserved_words : List (Text × Kind)
reserved_words =
    (codes "and", kind.AndWord) ∷
    (codes "arbitrate", kind.ArbitrateWord) ∷
    (codes "as", kind.AsWord) ∷
    (codes "begin", kind.BeginWord) ∷
    (codes "bits", kind.BitsWord) ∷
    (codes "case", kind.CaseWord) ∷
    (codes "channel", kind.ChannelWord) ∷
    (codes "continue", kind.ContinueWord) ∷
    (codes "else", kind.ElseWord) ∷
    (codes "end", kind.EndWord) ∷
    (codes "enumeration", kind.EnumerationWord) ∷
    (codes "halt", kind.HaltWord) ∷
    (codes "if", kind.IfWord) ∷
    (codes "input", kind.InputWord) ∷
    (codes "is", kind.IsWord) ∷
    (codes "loop", kind.LoopWord) ∷
    (codes "not", kind.NotWord) ∷
    (codes "of", kind.OfWord) ∷
    (codes "or", kind.OrWord) ∷
    (codes "output", kind.OutputWord) ∷
    (codes "procedure", kind.ProcedureWord) ∷
    (codes "select", kind.SelectWord) ∷
    (codes "shared", kind.SharedWord) ∷
    (codes "sync", kind.SyncWord) ∷
    (codes "then", kind.ThenWord) ∷
    (codes "type", kind.TypeWord) ∷
    (codes "variable", kind.VariableWord) ∷
    (codes "while", kind.WhileWord) ∷
    (codes "xor", kind.XorWord) ∷ []

-- the symbols
abbrev pub symbols : List (Text × Kind)
symbols =
    (codes ":=", kind.AssignSign) ∷
    (codes "<-", kind.SendSign) ∷
    (codes "->", kind.ReceiveSign) ∷
    (codes "||", kind.DoubleBar) ∷
    (codes "|", kind.Bar) ∷
    (codes ";", kind.Semicolon) ∷
    (codes ":", kind.Colon) ∷
    (codes ",", kind.Comma) ∷
    (codes "(", kind.LeftParenthesis) ∷
    (codes ")", kind.RightParenthesis) ∷
    (codes "[", kind.LeftBracket) ∷
    (codes "]", kind.RightBracket) ∷
    (codes "+", kind.PlusSign) ∷
    (codes "-", kind.MinusSign) ∷
    (codes "=", kind.EqualSign) ∷
    (codes "/=", kind.NotEqualSign) ∷
    (codes "<", kind.LessSign) ∷
    (codes ">", kind.GreaterSign) ∷
    (codes "<=", kind.LessOrEqualSign) ∷
    (codes ">=", kind.GreaterOrEqualSign) ∷ []

-- the reserved word that a text is
unfoldable pub reserved_word : Text → Option Kind
reserved_word = lookup reserved_words

-- the symbol that a text is
unfoldable pub symbol : Text → Option Kind
symbol = lookup symbols
