-- The frame of a body.
use Rattle.std.specs.Prelude.{ℕ, List, [], ◌∷◌, ◌++◌, length, codes}
use Rattle.std.specs.Fmt.{decimal}

-- what ends a header: the end of its last line, and an empty line
abbrev pub header_end : List ℕ
header_end = 13 ∷ 10 ∷ 13 ∷ 10 ∷ []

-- the header of a body of so many bytes
abbrev pub header_of : ℕ → List ℕ
header_of n = codes "Content-Length: " ++ decimal n ++ header_end

-- the frame
abbrev pub framed : List ℕ → List ℕ
framed body = header_of (length body) ++ body
