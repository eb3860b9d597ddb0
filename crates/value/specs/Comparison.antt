-- What the comparison operators say of two unsigned numbers.
use Rattle.std.specs.Prelude.{ℕ, Bool, not, nat_eq, nat_lt, nat_le}
use Rattle.value.specs.declared.Comparison.{Comparison}
use Rattle.value.specs.declared.Comparison.TheVariants.{Equal, NotEqual, Less, Greater, LessOrEqual, GreaterOrEqual}

-- whether the comparison is true of two unsigned numbers, in this order
abbrev pub holds : Comparison → ℕ → ℕ → Bool
holds Equal a b = nat_eq a b
holds NotEqual a b = not (nat_eq a b)
holds Less a b = nat_lt a b
holds Greater a b = nat_lt b a
holds LessOrEqual a b = nat_le a b
holds GreaterOrEqual a b = nat_le b a
