-- What a run does: it serves the request that its words ask for, or says why there is none.
use Rattle.std.specs.Prelude.{◌≡◌, ◌≢◌, ◌⊎◌, ℕ, List, [], Ok, Err}
use Rattle.file_answers.specs.Answering.{Holding}
use Rattle.file_answers.specs.Explained.{IsBehind}
use Rattle.file_answers.specs.FaultLine.{fault_line}
use Rattle.file_answers.specs.Kept.{Kept}
use Rattle.command_line.specs.Serving.{status_of, told_with, Serves}
use Rattle.file_answers.specs.Used.{Outcome, Used, IsUntouched, Tells}
use Rattle.command_words.specs.declared.request.Request.{Request}
use Rattle.debug_session.specs.declared.fault.Fault.{Fault}
use Rattle.debug_session.specs.declared.fault.Fault.TheVariants.{Memory, WriteFailed}

-- what is told on a device: a text that is not empty
abbrev pub TellsSome : {D : Type 0} → Used D → Type 0
TellsSome use-of = (text : List ℕ) × (ended : Outcome) × (text ≢ []) × Tells text use-of ended

-- a refusal by this fault is told on standard error
abbrev pub TellsFault : {E : Type 0} → Fault → Used E → Type 0
TellsFault fault err = (ended : Outcome) × Tells (fault_line fault) err ended

-- help or the version is told on the output, and where that failed, which is told on standard error
abbrev pub TellsHelp : {O E : Type 0} → ℕ → Used O → Used E → Type 0
TellsHelp status out err =
    (text : List ℕ) × (ended : Outcome) × (text ≢ []) × Tells text out ended × (status ≡ status_of ended)
    × (((ended ≡ Ok tt) × IsUntouched err) ⊎ ((ended ≡ Err WriteFailed) × TellsFault WriteFailed err))

-- no request is served: there was no memory for it; or none is asked for, as `unasked` has it, and either the words are
-- mistaken, as `mistaken` has it, which is told on standard error; or help or the version is asked for, as `helped` has
-- it, and told on the output
abbrev pub Explains : {O E : Type 0} → Type 0 → Type 0 → Type 0 → ℕ → Used O → Used E → Type 0
Explains unasked mistaken helped status out err =
    ((status ≡ 1) × IsUntouched out × TellsFault Memory err)
    ⊎ (unasked × ((mistaken × (status ≡ 2) × IsUntouched out × TellsSome err) ⊎ (helped × TellsHelp status out err)))

-- a request that is asked for is served, and a refusal of it is told on standard error: in a line, and behind it in
-- words where these are asked for too, of what was read
abbrev pub ServesAsked : {I O E : Type 0} → (Request → Type 0) → Holding → ℕ → Used I → Used O → Used E → Type 0
ServesAsked asked holds status reader out err =
    (request : Request) × asked request × (done : Outcome) × (ended : Outcome) × (kept : Kept) × (words : List ℕ)
    × Serves holds request reader out kept done × IsBehind request kept done words × (status ≡ status_of done)
    × Tells (told_with done words) err ended
