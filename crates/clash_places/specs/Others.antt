-- Which other use makes a clash with one.
use Rattle.std.specs.Prelude.{◌≡◌, ℕ, Option, None, Some}
use Rattle.syntax.specs.Lists.{In}
use Rattle.system.specs.declared.system.System.{System}
use Rattle.sharing_check.specs.Refusal.{Clash, ClashesAt}
use Rattle.sharing_check.specs.Uses.{VariableUse, uses_of}
use Rattle.clash_places.specs.declared.pairs.OtherUse.{OtherUse}

-- a use at the offset clashes with another one, by the rule on sharing, and this is that; or no use there clashes, and
-- none is told
abbrev pub TellsOther : System → ℕ → Option OtherUse → Type 0
TellsOther system offset None = ClashesAt system offset → ⊥
TellsOther system offset (Some other) =
    (u v : VariableUse) × In u (uses_of system.main) × In v (uses_of system.main) × Clash system u v
    × (u.offset ≡ offset) × (other.offset ≡ v.offset) × (other.writes ≡ v.writes)
