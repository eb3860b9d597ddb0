-- How a shell begins, and how it ends.
use Rattle.std.proofs.Common.{◌≡◌, inr, ℕ, Bool, List, Option, Some, Ok, Err, ap, subst, sym}
use Rattle.std.specs.Prelude.{MatchResult}
use Rattle.shell_files.specs.Files.{Files}
use Rattle.shell.specs.Taken.{SessionEnds}
use Rattle.file_answers.specs.Answering.{Holding, TextsHad}
use Rattle.command_line.specs.Shells.{StartHad, StartRefused, TraceHad, TraceNotHad}
use Rattle.file_answers.specs.Used.{Outcome}

-- the description was had and is accepted, and then the trace is had or is not
pub start-had : (holds : Holding) (file stimulus : List ℕ) (trace : Option (List ℕ))
    (source values kept-source kept-values steps : List ℕ) (r : Outcome)
    → TextsHad holds file stimulus source values
    → MatchResult r (λ _. TraceHad holds trace steps × (kept-source ≡ source) × (kept-values ≡ values)) (TraceNotHad holds trace)
    → MatchResult r (λ _. StartHad holds file stimulus trace kept-source kept-values steps)
    (StartRefused holds file stimulus trace)
start-had holds file stimulus trace source values kept-source kept-values steps (Ok x) had kept = (
  (
    subst (λ (t : List ℕ). holds file (Some t)) (sym kept.1) had.0,
    subst (λ (t : List ℕ). holds stimulus (Some t)) (sym kept.2) had.1,
  ),
  kept.0,
)
start-had holds file stimulus trace source values kept-source kept-values steps (Err fault) had none =
    inr (source, values, had, inr none)

-- a session on slices of the texts is one on the texts
pub session-on : (files : Files) (at_terminal : Bool) (source values slice text : List ℕ) (trace kept : Option (List ℕ)) (untouched : Type 0)
    (read left wrote contents : Option (List ℕ)) (done : Outcome) → slice ≡ source → text ≡ values → kept ≡ trace
    → SessionEnds files at_terminal slice text kept untouched read left wrote contents done
    → SessionEnds files at_terminal source values trace untouched read left wrote contents done
session-on files at_terminal source values slice text trace kept untouched read left wrote contents done same alike is ends =
    subst (λ (t : Option (List ℕ)). SessionEnds files at_terminal source values t untouched read left wrote contents done) is
    (subst (λ (t : List ℕ). SessionEnds files at_terminal source t kept untouched read left wrote contents done) alike
    (subst (λ (t : List ℕ). SessionEnds files at_terminal t text kept untouched read left wrote contents done) same ends))
