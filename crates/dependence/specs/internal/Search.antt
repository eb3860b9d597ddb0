-- Places in ascending order, and where one parts them.
-- No reader has to believe it: the proofs of `PlaceTable` tie it to `ticket_at`.
use Rattle.std.specs.Prelude.{◌≡◌, ℕ, ◌-◌, ◌<◌, ◌≤◌, List, [], ◌∷◌, length, take, drop}
use Rattle.std.specs.declared.cmp.Ordering.TheVariants.{Less}
use Rattle.address.specs.Order.{order_of}
use Rattle.address.specs.declared.Entry.{Entry}
use Rattle.syntax.specs.Lists.{In}

-- each place is less than those behind it
abbrev pub Rising : List (List Entry) → Type 0
Rising [] = Unit {0}
Rising (a ∷ ps) = ((b : List Entry) → In b ps → order_of a b ≡ Less) × Rising ps

-- the first n places are less than the bound, and no others
pub record Splits (ps : List (List Entry)) (bound : List Entry) (n : ℕ) : Type 0 where
  pub within : n ≤ length ps
  pub below : (a : List Entry) → In a (take n ps) → order_of a bound ≡ Less
  pub above : (a : List Entry) → In a (drop n ps) → order_of a bound ≡ Less → ⊥

-- the first n places are less than the bound
abbrev pub AllLess : List (List Entry) → ℕ → List Entry → Type 0
AllLess ps n bound = (a : List Entry) → In a (take n ps) → order_of a bound ≡ Less

-- from the last of the first n places on none is less than the bound
pub record LastNotLess (ps : List (List Entry)) (n : ℕ) (bound : List Entry) : Type 0 where
  pub some : 0 < n
  pub above : (a : List Entry) → In a (drop (n - 1) ps) → order_of a bound ≡ Less → ⊥
