-- Calls of a shared execution.
use Rattle.std.specs.Prelude.{◌≡◌, ◌⊎◌, ◌≤◌, ◌^◌, ◌++◌, ◌∷◌, ℕ, List, [], length}
use mathlib.Core.List.{IsPrefix}
use Rattle.atomic_table.specs.Seated.{TableId}
use Rattle.runs.specs.declared.command.Refusal.TheVariants.{Spent}
use Rattle.machine.specs.AtMachine.{AtMachine}
use Rattle.recorded_calls.specs.History.{Replays, entry_of}
use Rattle.locked_object.specs.Passes as passes
use Rattle.locked_object.specs.Keepers.{history}
use Rattle.locked_object.specs.Passes.{number, seen_history, own, told_history}
use Rattle.locked_object.specs.Sharing.{Recorded, SawNothing}
use Rattle.locked_object.specs.declared.keeper.Keeper.{Keeper}
use Rattle.locked_object.specs.declared.pass.Pass.{Pass}
use Rattle.object_workers.specs.Runs.{PassesFit}
use Rattle.locked_execution.specs.AtDesk.{AtDesk}
use Rattle.locked_execution.specs.Sharing.{History, Keeps, Legal, NotKept}
use Rattle.locked_execution.specs.declared.command.Command.{Command}
use Rattle.locked_execution.specs.declared.command.Reply.{Reply}
use Rattle.locked_execution.specs.declared.shared.Shared.{Shared}

-- the desk before the first call
abbrev pub opening : Shared → AtDesk
opening s = s.object.board.table.shared.key

-- where the number of recorded calls stands
abbrev pub table : Shared → TableId
table s = s.object.board.table.shared.table_id

-- how many passes it has
abbrev pub passes_of : Shared → ℕ
passes_of s = s.object.passes

-- a pass of this execution
abbrev pub IsPassOf : Shared → Pass AtDesk Command Reply → Type 0
IsPassOf s p = passes.IsPassOf (table s) (opening s) p

abbrev pub ArePassesOf : Shared → List (Pass AtDesk Command Reply) → Type 0
ArePassesOf s ps = PassesFit (table s) (opening s) ps

-- why a call was not recorded, of the history: after it the reply to the command is one that is not recorded, for want
-- of memory or of a ticket; or it has no room for one call more
abbrev pub WhyNotRecorded : AtDesk → ℕ → Command → History → Reply → Type 0
WhyNotRecorded opening n command log reply =
    ((d : AtDesk) × Replays Keeps opening log d × NotKept d n command reply)
    ⊎ ((reply ≡ Reply.Refused Spent) × (Legal opening log × (2 ^ 63 ≤ length log)))

-- a call is recorded, behind all that the pass had seen: the pass has then seen a legal history that ends with it; or
-- it is not: the pass has seen and made what it had, and it was told the history that says why, which begins with what
-- it had seen
abbrev pub Answered : AtDesk → Pass AtDesk Command Reply → Command → Reply → Pass AtDesk Command Reply → Type 0
Answered opening before command reply after =
    (Recorded before command reply after × Legal opening (seen_history after))
    ⊎ (WhyNotRecorded opening (number before) command (told_history after) reply × SawNothing before after
    × IsPrefix (seen_history before) (told_history after))

-- why a keeper did not record the call: the reply is one that is not recorded, for want of memory or of a ticket; or
-- there is no room for one call more
abbrev pub WhyNotKept : Keeper AtDesk Command Reply → ℕ → Command → Reply → Type 0
WhyNotKept k n command reply =
    NotKept k.object n command reply ⊎ ((reply ≡ Reply.Refused Spent) × (2 ^ 63 ≤ length (history k)))

-- what a keeper does with the command of a pass: it performs it on its desk, and records it with the reply behind all
-- others, and the pass has then seen the recorded history; or neither desk nor history has changed, and the pass is
-- told the history that says why
abbrev pub PerformedAs : Keeper AtDesk Command Reply → Pass AtDesk Command Reply → Command → Reply →
    Keeper AtDesk Command Reply → Pass AtDesk Command Reply → Type 0
PerformedAs k p command reply k' p' =
    (Keeps k.object (number p) command reply k'.object
    × (history k' ≡ history k ++ entry_of (number p) command reply ∷ [])
    × (own p' ≡ own p ++ entry_of (number p) command reply ∷ []) × (seen_history p' ≡ history k'))
    ⊎ (WhyNotKept k (number p) command reply × (k'.object ≡ k.object) × (history k' ≡ history k) × SawNothing p p'
    × (told_history p' ≡ history k))

-- the machine of the desk after these calls
abbrev pub Leaves : AtDesk → History → AtMachine → Type 0
Leaves opening log machine = (d : AtDesk) × Replays Keeps opening log d × (machine ≡ d.machine)
