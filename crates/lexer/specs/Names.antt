-- Which texts are names.
use Rattle.std.specs.Prelude.{Bool, ◌&&◌, not, is_some, slice_index}
use Rattle.std.specs.List.{list_all}
use Rattle.std.specs.Char.{is_ascii_alphabetic}
use Rattle.syntax.specs.Texts.{Text}
use Rattle.lexer.specs.Bytes.{is_name_byte}
use Rattle.lexer.specs.Table.{reserved_word}

-- a letter, then letters, digits and `_`
abbrev pub is_word : Text → Bool
is_word text = is_ascii_alphabetic (slice_index text 0) && list_all is_name_byte text

-- a word that is not reserved
abbrev pub is_name : Text → Bool
is_name text = is_word text && not (is_some (reserved_word text))
