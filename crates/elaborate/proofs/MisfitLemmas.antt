-- The first entry that does not fit is the same one with more entries behind it.
use Rattle.std.proofs.Common.{◌≡◌, ℕ, List, [], ◌∷◌, ◌++◌, Bool, true, false, Some, None, refl}
use Rattle.elaborate.specs.Fit.{entry_fits, first_misfit}
use Rattle.elaborate.specs.declared.stimulus.Entry.{Entry}
use Rattle.types.specs.declared.tree.Port.{Port}

pub misfit_stands : (ports : List Port) (before entries later : List Entry) (line : ℕ) → first_misfit ports before entries ≡ Some line
    → first_misfit ports before (entries ++ later) ≡ Some line
misfit_stands ports before [] later line h = let none : None ≡ Some line = h in cc
misfit_stands ports before (entry ∷ rest) later line h =
    by (entry_fits ports before entry) refl (misfit_stands ports (before ++ entry ∷ []) rest later line)
  where
    by : (b : Bool) → entry_fits ports before entry ≡ b
        → (first_misfit ports (before ++ entry ∷ []) rest ≡ Some line → first_misfit ports (before ++ entry ∷ []) (rest ++ later) ≡ Some line)
        → first_misfit ports before (entry ∷ (rest ++ later)) ≡ Some line
    by true fits onward = rw fits (onward (rw fits at h))
    by false other onward = rw other (rw other at h)
