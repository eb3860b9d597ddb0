-- The lines of a source, and the procedure around one.
use Rattle.std.specs.Prelude.{ℕ, suc, ◌≡◌, ◌==◌, Bool, false, true, not, cond, if◌then◌else◌, ◌&&◌, ◌||◌, nat_lt, List, [], ◌∷◌, ◌++◌, Option, None, Some, length, map}
use Rattle.std.specs.Option.{option_to_list}
use Rattle.lexer.specs.Tokens.{AreTokens}
use Rattle.lexer.specs.declared.token.Kind.{Kind}
use Rattle.lexer.specs.declared.token.Kind.TheVariants.{ProcedureWord}
use Rattle.lexer.specs.declared.token.Token.{Token}
use Rattle.dap_views.specs.Counted.{at_most_all}
use Rattle.dap_views.specs.declared.lines.Heading.{Heading}
use Rattle.dap_views.specs.declared.lines.Lines.{Lines}

-- whether a procedure begins on this line or above it
abbrev pub is_inside : ℕ → List Heading → Bool
is_inside line [] = false
is_inside line (h ∷ hs) = not (nat_lt line h.line) || is_inside line hs

-- the line on which the next procedure begins, or that behind the last
abbrev pub below : ℕ → ℕ → List Heading → ℕ
below line behind [] = behind
below line behind (h ∷ hs) = cond (nat_lt line h.line) h.line (below line behind hs)

-- the line before which the procedure ends that is around this one; 0 where none is
abbrev pub end_of : Lines → ℕ → ℕ
end_of lines line =
    cond (nat_lt line lines.behind && is_inside line lines.headings.items)
    (below line lines.behind lines.headings.items) 0

-- the offsets behind the ends of lines, where these bytes stand from this offset on
abbrev pub begins_behind : ℕ → List ℕ → List ℕ
begins_behind offset [] = []
begins_behind offset (x ∷ xs) =
    if x == 10 then suc offset ∷ begins_behind (suc offset) xs else begins_behind (suc offset) xs

-- whether it is the word `procedure`
abbrev pub is_procedure : Kind → Bool
is_procedure ProcedureWord = true
is_procedure _ = false

-- the line of a token that begins a procedure
abbrev pub begun_by : Token → Option ℕ
begun_by t = if is_procedure t.kind then Some t.span.line else None

-- the lines of those that are followed by another token, where the token before these began a procedure on this line,
-- if it did
abbrev pub heading_lines : Option ℕ → List Token → List ℕ
heading_lines begun [] = []
heading_lines begun (t ∷ ts) = option_to_list begun ++ heading_lines (begun_by t) ts

-- the lines of a source: where each begins, the line behind the last, and where procedures begin
pub record AreLinesOf (source : List ℕ) (lines : Lines) : Type 0 where
  pub begins : lines.begins.items ≡ 0 ∷ begins_behind 0 source
  pub behind : lines.behind ≡ at_most_all (length lines.begins.items) 1
  pub tokens : List Token
  pub cut : AreTokens source tokens
  pub headings : map (λ (h : Heading). h.line) lines.headings.items ≡ heading_lines None tokens
