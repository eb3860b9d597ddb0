-- Calls that take no memory are not refused for want of it.
use Rattle.std.proofs.Common.{◌≢◌, inl, inr, ℕ, Result, Ok, Err, subst}
use Rattle.std.specs.Prelude.{IfErr}
use Rattle.runs.specs.Does.{Answers, RefusesUndo}
use Rattle.runs.specs.Object.{Object}
use Rattle.runs.specs.declared.event.Event.{Event}
use Rattle.runs.specs.Commands.{Command}
use Rattle.runs.specs.declared.command.Refusal.{Refusal}
use Rattle.runs.specs.declared.command.Refusal.TheVariants.{Memory}
use Rattle.machine.specs.Results.{undo_reply}

-- it is refused for another reason, if at all
abbrev pub IsNoWant : {A : Type 0} → Result A Refusal → Type 0
IsNoWant r = IfErr r (λ why. why ≢ Memory)

pub undo-wants-none : (o o' : Object) (t : ℕ) (r : Result Event Refusal) → Answers o (Command.Undo t) (undo_reply t r) o' → IsNoWant r
undo-wants-none o o' t (Ok e) h = tt
undo-wants-none o o' t (Err why) (inl h) = λ is. subst (λ (w : Refusal). RefusesUndo o t w) is h.0
undo-wants-none o o' t (Err why) (inr h) = λ is. h.0
