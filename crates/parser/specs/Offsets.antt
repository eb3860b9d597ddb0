-- Where tokens stand in the source.
use Rattle.std.specs.Prelude.{ℕ, List, [], ◌∷◌}
use Rattle.lexer.specs.declared.token.Token.{Token}

-- where the last of the tokens ends, or 0
abbrev pub end_of : List Token → ℕ
end_of [] = 0
end_of (token ∷ []) = token.span.stop
end_of (token ∷ next ∷ rest) = end_of (next ∷ rest)

-- where the first token of the rest begins; where nothing is left, where the tokens end
abbrev pub offset_at : List Token → List Token → ℕ
offset_at tokens [] = end_of tokens
offset_at tokens (token ∷ rest) = token.span.start
