-- The last of a list, and what is defined by it.
use Rattle.std.proofs.Common.{◌≡◌, ℕ, suc, ◌-◌, List, [], ◌∷◌, length, slice_get, Some, None, ap, sym, ◌∙◌, arith}
use Rattle.lexer.specs.declared.token.Token.{Token}
use Rattle.syntax.specs.declared.span.Span.{Span}
use Rattle.syntax.specs.declared.command.Command.{Command}
use Rattle.parser.specs.Offsets.{end_of}
use Rattle.parser.specs.Trees.{through, command_span, over}

behind_first : {A : Type 0} (a b : A) (more : List A)
    → slice_get (a ∷ b ∷ more) (length (a ∷ b ∷ more) - 1) ≡ slice_get (b ∷ more) (length (b ∷ more) - 1)
behind_first a b more =
    let next : length (a ∷ b ∷ more) - 1 ≡ suc (length (b ∷ more) - 1) = omega arith in
    ap (λ k. slice_get (a ∷ b ∷ more) k) next

pub over_last : (start : Span) (commands : List Command) (last : Command) → Some last ≡ slice_get commands (length commands - 1)
    → over start commands ≡ through start (command_span last)
over_last start [] last found = let none : Some last ≡ None = found in cc
over_last start (command ∷ []) last found =
    let first : Some last ≡ Some command = found in
    let same : last ≡ command = cc in
    ap (λ c. through start (command_span c)) (sym same)
over_last start (command ∷ next ∷ more) last found = over_last start (next ∷ more) last (found ∙ behind_first command next more)

pub end_of_last : (tokens : List Token) (last : Token) → Some last ≡ slice_get tokens (length tokens - 1) → end_of tokens ≡ last.span.stop
end_of_last [] last found = let none : Some last ≡ None = found in cc
end_of_last (token ∷ []) last found =
    let first : Some last ≡ Some token = found in
    let same : last ≡ token = cc in
    ap (λ t. t.span.stop) (sym same)
end_of_last (token ∷ next ∷ more) last found = end_of_last (next ∷ more) last (found ∙ behind_first token next more)

-- a span by its parts
pub span_through : (made first last : Span) → made.start ≡ first.start → made.stop ≡ last.stop → made.line ≡ first.line → made ≡ through first last
span_through made first last start stop line =
    let by_start : ℕ → Span = λ s. record { start = s; stop = made.stop; line = made.line } in
    let by_stop : ℕ → Span = λ s. record { start = first.start; stop = s; line = made.line } in
    let by_line : ℕ → Span = λ s. record { start = first.start; stop = last.stop; line = s } in
    ap by_start start ∙ ap by_stop stop ∙ ap by_line line
