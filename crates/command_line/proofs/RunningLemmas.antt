-- How a run that serves no request ends.
use Rattle.std.proofs.Common.{◌≡◌, inl, inr, ℕ, List, [], Ok, Err, ap, subst, refl}
use Rattle.std.proofs.lemmas.List.{append-nil}
use Rattle.debug_session.specs.declared.fault.Fault.{Fault}
use Rattle.file_answers.specs.FaultLine.{fault_line}
use Rattle.command_line.specs.Running.{Explains, TellsHelp}
use Rattle.command_line.specs.Serving.{status_of, told_text, told_with}
use Rattle.file_answers.specs.Used.{Outcome, Used, IsUntouched, Tells}
use Rattle.command_line.specs.internal.Unasked.{HasText, TellsUnasked}
use Rattle.command_words.specs.Words.{AreMistaken, AskForHelp, AskForSome, AskNothing}
use Rattle.command_words.specs.declared.unasked.Unasked.{Unasked}

-- help was written, or was not, which is told
pub help-told : {O E : Type 0} (text : List ℕ) (done ended : Outcome) (status : ℕ) (out : Used O) (err : Used E)
    → (text ≡ [] → ⊥) → Tells text out done → status ≡ status_of done → (status ≡ 0 → IsUntouched err)
    → Tells (told_text done) err ended → TellsHelp status out err
help-told text (Ok tt) ended status out err some wrote is quiet line =
    (text, Ok tt, some, wrote, is, inl (refl, quiet is))
help-told text (Err fault) ended status out err some wrote is quiet line =
    let failed = wrote.0.2.0 in
    (text, Err fault, some, wrote, is, inr (ap Err failed, (ended, subst (λ (f : Fault). Tells (fault_line f) err ended) failed line)))

-- what is told of words that ask for nothing
pub tells-unasked : {O E : Type 0} (words : List (List ℕ)) (unasked : Unasked) (status : ℕ) (out : Used O) (err : Used E)
    → AskNothing words unasked → TellsUnasked unasked status out err
    → Explains (AskForSome words → ⊥) (AreMistaken words) (AskForHelp words) status out err
tells-unasked words Unasked.Memory status out err nothing told = inl told
tells-unasked words (Unasked.Help text) status out err nothing told = inr (nothing.0, inr (nothing.1, told))
tells-unasked words (Unasked.Mistake text) status out err nothing told =
    inr (nothing.0, inl (nothing.1, told.0, told.1, told.2))

-- it has a text
pub nothing-has-text : (words : List (List ℕ)) (unasked : Unasked) → AskNothing words unasked → HasText unasked
nothing-has-text words Unasked.Memory nothing = tt
nothing-has-text words (Unasked.Help text) nothing = nothing.2
nothing-has-text words (Unasked.Mistake text) nothing = nothing.2

-- a refusal without words is its line alone
pub told-alone : {E : Type 0} (done : Outcome) (err : Used E) (ended : Outcome) → Tells (told_with done []) err ended
    → Tells (told_text done) err ended
told-alone (Ok tt) err ended told = told
told-alone (Err fault) err ended told = subst (λ (t : List ℕ). Tells t err ended) (append-nil (fault_line fault)) told
