-- What is spelled: which texts are pieces of each class.
use Rattle.std.specs.Prelude.{◌≡◌, ℕ, Bool, false, not, ◌&&◌, nat_eq, [], ◌∷◌, ◌++◌, slice_index, IsTrue, IsSome}
use Rattle.std.specs.List.{list_all, starts_with}
use Rattle.std.specs.Char.{is_ascii_alphabetic, is_ascii_digit}
use Rattle.syntax.specs.Texts.{Text, is_end}
use Rattle.lexer.specs.Bytes.{is_blank, is_name_byte}
use Rattle.lexer.specs.Comment.{is_nested_comment, IsOpenComment}
use Rattle.lexer.specs.Table.{symbol}
use Rattle.lexer.specs.declared.class.Class.{Class}
use Rattle.lexer.specs.declared.class.Class.TheVariants.{Blank, LineComment, NestedComment, OpenComment, Word, Number, Symbol}

-- whether a text begins with `--`
abbrev pub is_dashes : Text → Bool
is_dashes text = starts_with nat_eq text (45 ∷ 45 ∷ [])

-- whether a text begins as a run of the class does
abbrev pub begins : Class → Text → Bool
begins Blank text = is_blank (slice_index text 0)
begins LineComment text = is_dashes text
begins Word text = is_ascii_alphabetic (slice_index text 0)
begins Number text = is_ascii_digit (slice_index text 0)
begins NestedComment text = false
begins OpenComment text = false
begins Symbol text = false

-- whether a run of the class may hold the byte
abbrev pub may_hold : Class → ℕ → Bool
may_hold Blank b = is_blank b
may_hold LineComment b = not (is_end b)
may_hold Word b = is_name_byte b
may_hold Number b = is_ascii_digit b
may_hold NestedComment b = false
may_hold OpenComment b = false
may_hold Symbol b = false

-- the text begins as the class does and goes on with bytes that it may hold
abbrev pub IsRun : Class → Text → Type 0
IsRun class text = IsTrue (begins class text && list_all (may_hold class) text)

-- the text is a spelling of the class
abbrev pub Spells : Class → Text → Type 0
Spells Blank text = IsRun Blank text
Spells LineComment text = IsRun LineComment text
Spells NestedComment text = IsTrue (is_nested_comment text)
Spells OpenComment text = IsOpenComment text
Spells Word text = IsRun Word text
Spells Number text = IsRun Number text
Spells Symbol text = IsSome (symbol text)

-- no front of the text is a spelling
abbrev pub NothingSpelled : Text → Type 0
NothingSpelled rest = (class : Class) (text after : Text) → rest ≡ text ++ after → ¬ Spells class text
