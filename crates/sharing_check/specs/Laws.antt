-- The laws of the rule on sharing.
use Rattle.std.specs.Prelude.{◌≡◌, ℕ, false}
use Rattle.syntax.specs.Lists.{In}
use Rattle.system.specs.Translation.{residual_of}
use Rattle.system.specs.declared.system.System.{System}
use Rattle.sharing_rule.specs.Sharing.{OneBranchWrites}
use Rattle.sharing_rule.specs.Rule.{is_shared}
use Rattle.sharing_check.specs.Uses.{VariableUse, uses_of}
use Rattle.sharing_check.specs.Refusal.{Clash}

-- in a system in which no two uses clash, a variable that is not shared, and written in one branch, is neither read
-- nor written in another
abbrev pub ClashFreeKeepsTheRule : Type 0
ClashFreeKeepsTheRule =
    (system : System) →
    ((u v : VariableUse) → In u (uses_of system.main) → In v (uses_of system.main) → Clash system u v → ⊥) →
    (x : ℕ) → is_shared system x ≡ false → OneBranchWrites x (residual_of system.main)
