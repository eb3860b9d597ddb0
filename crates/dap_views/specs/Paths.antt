-- How paths of files begin.
use Rattle.std.specs.Prelude.{ℕ, ◌==◌, ◌&&◌, ◌||◌, Bool, false, List, ◌∷◌, codes, drop, if◌then◌else◌, nat_eq}
use Rattle.std.specs.Char.{is_ascii_alphabetic}
use Rattle.std.specs.List.{starts_with}

-- whether a path begins with the letter of a drive, as `C:`
abbrev pub has_drive : List ℕ → Bool
has_drive (letter ∷ sign ∷ rest) = (sign == 58) && is_ascii_alphabetic letter
has_drive _ = false

-- whether a path does not count from a folder
abbrev pub is_rooted : List ℕ → Bool
is_rooted path = starts_with nat_eq path (codes "/") || has_drive path

-- the name of a file that counts from a folder, without the sign for that folder
abbrev pub own_name : List ℕ → List ℕ
own_name name = if starts_with nat_eq name (codes "./") then drop 2 name else name
