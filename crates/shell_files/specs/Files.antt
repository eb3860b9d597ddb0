-- What is known of the files that a session reads and writes.
use Rattle.std.specs.Prelude.{ℕ, List}

-- of a name and bytes whether a file of this name may have had them, and of a name whether nothing may have had it, at
-- some moment of a session
pub record Files : Type 1 where
  pub holds : List ℕ → List ℕ → Type 0
  pub free : List ℕ → Type 0
