-- One event more is told.
use Rattle.std.proofs.Common.{◌≡◌, List, [], ◌∷◌, ◌++◌, ap, refl}
use Rattle.dap_messages.specs.Notes.{told_by}
use Rattle.dap_messages.specs.declared.answer.Note.{Note}
use Rattle.dap_messages.specs.declared.told.Told.{Told}

pub told-more : (notes : List Note) (note : Note) → told_by (notes ++ note ∷ []) ≡ told_by notes ++ note.told ∷ []
told-more [] note = refl
told-more (other ∷ notes) note = ap (λ (ts : List Told). other.told ∷ ts) (told-more notes note)
