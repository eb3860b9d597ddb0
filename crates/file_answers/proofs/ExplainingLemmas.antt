-- The words behind the line of a refusal.
use Rattle.std.proofs.Common.{◌≡◌, ℕ, List, Option, subst, refl}
use Rattle.diagnosis.specs.Told.{TellsFault}
use Rattle.diagnosis.specs.declared.told.Inputs.{Inputs}
use Rattle.debug_session.specs.FaultNumbers.{fault_number, fault_field}
use Rattle.debug_session.specs.declared.fault.Fault.{Fault}
use Rattle.debug_session.specs.declared.fault.Fault.TheVariants.{Refused}
use Rattle.runs.specs.declared.command.Refusal.{Refusal}
use Rattle.command_words.specs.declared.request.Request.{Request}
use Rattle.file_answers.specs.Explained.{AreInputs, Explains, TellsIn}
use Rattle.file_answers.specs.Kept.{Kept}

-- what is told by the number and the field of a fault tells of it
pub told-of : (request : Request) (kept : Kept) (fault : Fault) (inputs : Inputs) (words : List ℕ) (number : ℕ) (field : Option ℕ)
    → AreInputs request kept fault inputs → number ≡ fault_number fault → field ≡ fault_field fault
    → TellsFault number field inputs words → TellsIn request kept fault words
told-of request kept fault inputs words number field are same alike told = (
  inputs,
  are,
  subst (λ (n : ℕ). TellsFault n (fault_field fault) inputs words) same
      (subst (λ (f : Option ℕ). TellsFault number f inputs words) alike told),
)

-- a fault for which no words are kept is explained by what is told of it
pub explained : (request : Request) (kept : Kept) (fault : Fault) (words : List ℕ) → ((why : Refusal) → fault ≡ Refused why → ⊥)
    → TellsIn request kept fault words → Explains request kept fault words
explained request kept (Refused why) words other told = absurd (other why refl)
explained request kept _ words other told = told
