-- The ordering law: of two related events of one run, the earlier has an address before an address of the later.
use Rattle.std.proofs.Common.{ℕ, List, [], ◌∷◌, Bool, inl, inr, subst}
use Rattle.runs.specs.Steps.{State, Step, Run}
use Rattle.runs.specs.Dependence.{SomeBefore, Earlier}
use Rattle.runs.proofs.public.SharingWidths.{KeepsSharing}
use Rattle.runs.specs.Related.{Related}
use Rattle.runs.specs.declared.event.Event.{Event}
use Rattle.runs.proofs.public.WellFormed.{WellFormed}
use Rattle.runs.proofs.KeptSharing.{keeps_sharing}
use Rattle.runs.proofs.Swap.{step-formed}
use Rattle.runs.proofs.Related.{ordered_now}

-- of two related events of a run, the earlier has an address before an address of the later
pub ordered : (is_sync is_shared : ℕ → Bool) (S T : State) (h : List Event) (f e : Event) →
    KeepsSharing is_sync is_shared S.residual → WellFormed S.residual → Run S h T → Earlier h f e → Related is_shared f e → SomeBefore f e
ordered is_sync is_shared S T [] f e K w run i related = elim i [ ]
ordered is_sync is_shared S T (x ∷ h) f e K w (U, step, run) (inl (same, i)) related =
    ordered_now is_sync is_shared S T U h f e K w (subst (λ y. Step S y U) same step) run i related
ordered is_sync is_shared S T (x ∷ h) f e K w (U, step, run) (inr i) related =
    ordered is_sync is_shared U T h f e (keeps_sharing is_sync is_shared S U x K step) (step-formed S U x w step) run i related
