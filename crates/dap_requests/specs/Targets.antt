-- The steps that `stepIn` may name.
use Rattle.std.specs.Prelude.{ℕ, List, Option, None, Some, codes, length}
use Rattle.serde_json.specs.Data.{Data}
use Rattle.machine.specs.AtMachine.{AtMachine}
use Rattle.dap_messages.specs.Arguments.{number_named}
use Rattle.dap_messages.specs.Notes.{IsRefusal}
use Rattle.dap_messages.specs.declared.answer.Answer.{Answer}
use Rattle.dap_messages.specs.declared.answer.Outcome.{Outcome}
use Rattle.dap_moves.specs.Moves.{targets}
use Rattle.dap_threads.specs.Frames.{FindsNamed}
use Rattle.dap_threads.specs.Given.{AreNumbered, Gives, numbers_to}
use Rattle.dap_views.specs.declared.index.Index.{Index}
use Rattle.dap_views.specs.declared.sight.Sight.{Sight}

-- as many steps are given as a step of this branch can be, numbered from 1 on
pub record GivesSteps (m : AtMachine) (sight : Sight) (branch : ℕ) (outcome : Outcome) : Type 0 where
  pub items : List Data
  pub given : Gives (codes "targets") items outcome
  pub numbered : AreNumbered items (numbers_to (length (targets m.checked branch sight.ready)))

-- so it is for the branch of the frame that was found, where the state is seen so; where none was, it is refused
abbrev pub GivesTargets : AtMachine → Option Sight → Option (ℕ × ℕ) → Outcome → Type 0
GivesTargets m seen None outcome = IsRefusal outcome
GivesTargets m None (Some found) outcome = ⊥
GivesTargets m (Some sight) (Some found) outcome = GivesSteps m sight found.0 outcome

-- and for the frame of the number that is named, if one is
abbrev pub ListsTargetsOf : AtMachine → Index → Option Sight → Option ℕ → Answer → Type 0
ListsTargetsOf m index seen None b = IsRefusal b.outcome
ListsTargetsOf m index seen (Some id) b =
    (found : Option (ℕ × ℕ)) × FindsNamed m index seen (Some id) found × GivesTargets m seen found b.outcome

-- and for these arguments
abbrev pub ListsTargets : AtMachine → Index → Option Sight → Data → Answer → Type 0
ListsTargets m index seen d b = ListsTargetsOf m index seen (number_named (codes "frameId") d) b
