-- Hashes of bytes, and for each hash of a list the first position at which it stands.
-- No reader has to believe them: what a table finds by them (`VariableTable::number`) is `variable_from` of
-- `Named.antt`.
use Rattle.std.specs.Prelude.{ℕ, ◌+◌, ◌*◌, ◌%◌, ◌^◌, nat_eq, List, [], ◌∷◌, ◌++◌, Option, Some, None, is_some, if◌then◌else◌}

-- the hash with one byte more
unfoldable pub mixed : ℕ → ℕ → ℕ
mixed hash byte = ((hash * 11400714819323198485) % 2 ^ 64 + byte) % 2 ^ 64

-- the hash of bytes behind others that have this hash
abbrev pub hash_onto : ℕ → List ℕ → ℕ
hash_onto hash [] = hash
hash_onto hash (byte ∷ bytes) = hash_onto (mixed hash byte) bytes

-- the hash of bytes
abbrev pub hash_of : List ℕ → ℕ
hash_of bytes = hash_onto 0 bytes

-- hashes, each with its position
abbrev pub Hashed : Type 0
Hashed = List (ℕ × ℕ)

-- the position of the hash
abbrev pub position_of_hash : Hashed → ℕ → Option ℕ
position_of_hash [] hash = None
position_of_hash (entry ∷ rest) hash = if nat_eq hash entry.0 then Some entry.1 else position_of_hash rest hash

-- with one hash more: a hash that has a position keeps it
abbrev pub hash_noted : Hashed → ℕ → ℕ → Hashed
hash_noted hashed hash position =
    if is_some (position_of_hash hashed hash) then hashed else hashed ++ (hash, position) ∷ []

-- with these hashes more, the first of which stands at this position
abbrev pub hashes_noted_from : Hashed → ℕ → List ℕ → Hashed
hashes_noted_from hashed position [] = hashed
hashes_noted_from hashed position (hash ∷ hashes) =
    hashes_noted_from (hash_noted hashed hash position) (position + 1) hashes

-- the hashes of a list
abbrev pub positions_of_hashes : List ℕ → Hashed
positions_of_hashes hashes = hashes_noted_from [] 0 hashes
