-- Bytes by what they may stand for.
use Rattle.std.specs.Prelude.{ℕ, Bool, ◌||◌, ◌==◌}
use Rattle.std.specs.Char.{is_ascii_alphanumeric}
use Rattle.syntax.specs.Texts.{is_end}

-- a tab, the end of a line, a carriage return, a space
abbrev pub is_blank : ℕ → Bool
is_blank b = ((b == 9 || is_end b) || b == 13) || b == 32

-- what may stand in a name behind its first letter
abbrev pub is_name_byte : ℕ → Bool
is_name_byte b = is_ascii_alphanumeric b || b == 95
