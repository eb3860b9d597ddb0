-- The enumerations among the tokens of a source.
use Rattle.std.specs.Prelude.{ℕ, Bool, cond, List, [], ◌∷◌, ◌++◌}
use denote.Enum.Bare.{sameb}
use Rattle.lexer.specs.contracts.token.Kind.{the_type}
use Rattle.lexer.specs.declared.token.Kind.{Kind}
use Rattle.lexer.specs.declared.token.Kind.TheVariants.{EndWord, EnumerationWord, Name}
use Rattle.lexer.specs.declared.token.Token.{Token}
use Rattle.described.specs.declared.enumeration.Enumeration.{Enumeration}

-- `==` on kinds
unfoldable pub same_kind : Kind → Kind → Bool
same_kind = sameb the_type

-- the names before the next `end`
abbrev pub names_to_end : List Token → List (List ℕ)
names_to_end [] = []
names_to_end (t ∷ ts) =
    cond (same_kind t.kind EndWord) []
    (cond (same_kind t.kind Name) (t.text ∷ names_to_end ts) (names_to_end ts))

-- the enumeration of this name, on the line of that, with the elements at the front of these
abbrev pub enumeration : Token → List Token → Enumeration
enumeration name rest = record { name = name.text; line = name.span.line; elements = names_to_end rest }

-- the same, if this is the word `enumeration`
abbrev pub named : Token → Token → List Token → List Enumeration
named name word rest = cond (same_kind word.kind EnumerationWord) (enumeration name rest ∷ []) []

-- the one whose name comes first, as in `NAME is enumeration NAME, NAME end`
abbrev pub first_in : List Token → List Enumeration
first_in [] = []
first_in (name ∷ []) = []
first_in (name ∷ is ∷ []) = []
first_in (name ∷ is ∷ word ∷ rest) = named name word rest

-- those of the tokens, in order
abbrev pub enumerations_of : List Token → List Enumeration
enumerations_of [] = []
enumerations_of (t ∷ ts) = first_in (t ∷ ts) ++ enumerations_of ts
