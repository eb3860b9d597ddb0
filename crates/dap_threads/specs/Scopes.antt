-- The scopes of a frame.
use Rattle.std.specs.Prelude.{ℕ, ◌+◌, List, [], ◌∷◌, Option, None, Some, codes}
use Rattle.serde_json.specs.Data.{Data}
use Rattle.machine.specs.AtMachine.{AtMachine}
use Rattle.dap_messages.specs.Arguments.{number_named}
use Rattle.dap_messages.specs.Notes.{IsRefusal}
use Rattle.dap_messages.specs.declared.answer.Answer.{Answer}
use Rattle.dap_messages.specs.declared.answer.Outcome.{Outcome}
use Rattle.dap_views.specs.declared.handles.Handle.{Handle}
use Rattle.dap_views.specs.declared.index.Index.{Index}
use Rattle.dap_views.specs.declared.sight.Sight.{Sight}
use Rattle.dap_threads.specs.Frames.{FindsNamed}
use Rattle.dap_threads.specs.Given.{AreUnfoldedBy, Gives}

-- what is unfolded of a frame of this branch in which the names of this call are seen: the variables and the channels
-- of the call, the newest steps of the thread, and all calls
abbrev pub scopes_of : ℕ → ℕ → List Handle
scopes_of branch call =
    Handle.Variables call ∷ Handle.Channels call ∷ Handle.Steps (branch + 1) ∷ Handle.Instance 0 ∷ []

-- these are given where a frame was found; else the request is refused
abbrev pub GivesScopes : Option (ℕ × ℕ) → Outcome → Type 0
GivesScopes None outcome = IsRefusal outcome
GivesScopes (Some found) outcome =
    (items : List Data) × Gives (codes "scopes") items outcome × AreUnfoldedBy items (scopes_of found.0 found.1)

-- so it is for the frame of the number that is named, if one is, where the state is seen so
abbrev pub ListsScopesOf : AtMachine → Index → Option Sight → Option ℕ → Answer → Type 0
ListsScopesOf m index seen None b = IsRefusal b.outcome
ListsScopesOf m index seen (Some id) b =
    (found : Option (ℕ × ℕ)) × FindsNamed m index seen (Some id) found × GivesScopes found b.outcome

-- and for these arguments
abbrev pub ListsScopes : AtMachine → Index → Option Sight → Data → Answer → Type 0
ListsScopes m index seen d b = ListsScopesOf m index seen (number_named (codes "frameId") d) b
