-- The text that tells who waits, line by line.
use Rattle.std.specs.Prelude.{ℕ, ◌+◌, List, [], ◌∷◌, ◌++◌, Bool, true, false, Option, None, Some, codes, length, slice_get}
use Rattle.std.specs.Fmt.{decimal}
use Rattle.std.specs.List.{flat_map}
use Rattle.address.specs.Text.{text_of}
use Rattle.system.specs.declared.system.System.{System}
use Rattle.system_places.specs.SystemBranches.{branch_at}
use Rattle.runs.specs.Events.{acting}
use Rattle.runs.specs.Moves.{Place}
use Rattle.runs.specs.declared.event.Event.{Event}
use Rattle.line_text.specs.AnswerText.{ending, entry_text, numbered_text}
use Rattle.line_text.specs.EventText.{channel_text}
use Rattle.machine.specs.AtMachine.{AtMachine}
use Rattle.local_actions.specs.declared.action.LocalAction.{LocalAction}
use Rattle.local_actions.specs.declared.action.ActionKind.{ActionKind}
use Rattle.local_actions.specs.declared.action.ActionKind.TheVariants as action
use Rattle.rings.specs.declared.partner.Partner.{Partner}
use Rattle.rings.specs.declared.partner.Partner.TheVariants as partner
use Rattle.waiting.specs.Input.{fed_channel, line_at}
use Rattle.waiting.specs.OtherLines.{other_lines}
use Rattle.waiting.specs.internal.LackTests.{lacks_input}
use Rattle.waiting.specs.declared.progress.Progress.{Progress}
use Rattle.waiting.specs.declared.progress.Progress.TheVariants.{GoesOn, Done, Stuck}
use Rattle.waiting.specs.declared.waiting.Waiting.{Waiting}

-- that nothing can go on, and whether more in the stimulus is all that is missing
abbrev pub stuck_line : Bool → List ℕ
stuck_line true = codes "out of input" ++ ending
stuck_line false = codes "stuck" ++ ending

-- how the run stands; of one that is stuck, whether it lacks input
abbrev pub progress_line : Progress → Bool → List ℕ
progress_line GoesOn lacks = codes "goes on" ++ ending
progress_line Done lacks = codes "done" ++ ending
progress_line Stuck lacks = stuck_line lacks

-- ---- places

-- a place behind the number by which `branch` calls its branch, if it lies in one
abbrev pub in_branch : Option ℕ → Place → List ℕ
in_branch None a = text_of a
in_branch (Some k) a = codes "branch " ++ decimal k ++ codes " " ++ text_of a

abbrev pub placed : System → Place → List ℕ
placed system a = in_branch (branch_at system a) a

-- the number of the branch; 0 where it lies in none, as no place of a run does
abbrev pub branch_or_first : Option ℕ → ℕ
branch_or_first None = 0
branch_or_first (Some k) = k

-- ---- the steps that can be taken, as `ready` has them, each behind the number of its branch
abbrev pub ready_line : System → Event → List ℕ
ready_line system e = entry_text system (codes "  branch") (branch_or_first (branch_at system (acting e))) e

-- nothing where there is none
abbrev pub ready_lines : System → List Event → List ℕ
ready_lines system [] = []
ready_lines system (e ∷ es) = numbered_text (codes "ready") (length (e ∷ es)) ++ flat_map (ready_line system) (e ∷ es)

-- ---- what waits

-- where it stands in the source
abbrev pub line_text : Option ℕ → List ℕ
line_text None = codes " environment:"
line_text (Some line) = codes " line " ++ decimal line ++ codes ":"

-- words, and the name of a channel
abbrev pub on_channel : System → List ℕ → ℕ → List ℕ
on_channel system words c = words ++ channel_text system (Some c)

-- what it waits to do
abbrev pub deed_text : System → ActionKind → List ℕ
deed_text system (action.Sends c v xs) = codes " sends " ++ decimal v.bits ++ on_channel system (codes " on ") c
deed_text system (action.Receives c (Some x)) = on_channel system (codes " receives from ") c
deed_text system (action.Receives c None) = on_channel system (codes " takes from ") c
deed_text system (action.Syncs c) = on_channel system (codes " syncs on ") c
deed_text system (action.Opens c k) = codes " opens arm " ++ decimal k ++ on_channel system (codes " on ") c
deed_text system (action.Releases c) = on_channel system (codes " is held on ") c
deed_text system (action.Closes c) = on_channel system (codes " closes ") c
deed_text system (action.Assigns x v xs) = codes " assigns"
deed_text system (action.Tests k xs) = codes " tests"
deed_text system action.Turns = codes " turns"

-- ---- for whom it waits

-- lines of the source
abbrev pub or_line : ℕ → List ℕ
or_line line = codes " or " ++ decimal line

abbrev pub lines_text : ℕ → List ℕ → List ℕ
lines_text line more = decimal line ++ flat_map or_line more

-- the lines at which the ends stand that it waits for, if they are known
abbrev pub for_lines : List ℕ → List ℕ
for_lines [] = []
for_lines (line ∷ more) = codes ", for line " ++ lines_text line more

-- no other branch has such an end, or none comes to the lines at which they stand
abbrev pub left_text : List ℕ → List ℕ
left_text [] = codes ", no other branch uses it any more"
left_text (line ∷ more) = codes ", no other branch comes to it on line " ++ lines_text line more ++ codes " any more"

-- the arm that holds it never ends, on these lines
abbrev pub held_text : List ℕ → List ℕ
held_text [] = codes ", by an arm that never ends"
held_text (line ∷ more) = codes ", by an arm on line " ++ lines_text line more ++ codes " that never ends"

-- The stimulus of a channel is used up, or no other branch comes to it for an action on a line or of the environment;
-- the ends that it waits for stand on these lines.
abbrev pub used_up_text : System → Option ℕ → Option ℕ → List ℕ → List ℕ
used_up_text system (Some line) (Some c) lines =
    on_channel system (codes ", the stimulus of ") c ++ codes " is used up"
used_up_text system _ _ lines = left_text lines

-- why no partner can come any more
abbrev pub gone_text : System → Option ℕ → ActionKind → List ℕ → List ℕ
gone_text system line (action.Releases c) lines = held_text lines
gone_text system line x lines = used_up_text system line (fed_channel system x) lines

-- what is known of its partner, which stands on one of these lines
abbrev pub partner_text : System → Option ℕ → ActionKind → Option Partner → List ℕ → List ℕ
partner_text system line x (Some (partner.Behind a)) lines = codes ", behind " ++ placed system a ++ for_lines lines
partner_text system line x (Some partner.Gone) lines = gone_text system line x lines
partner_text system line x _ lines = []

-- an action that waits
abbrev pub action_line : System → Option ℕ → LocalAction → Option Partner → List ℕ
action_line system line x p =
    codes "  " ++ placed system x.place ++ line_text line ++ deed_text system x.action
    ++ partner_text system line x.action p (other_lines system line x p) ++ ending

-- these actions, of which the first has the partner of number n
abbrev pub action_lines : AtMachine → List Partner → ℕ → List LocalAction → List ℕ
action_lines m partners n [] = []
action_lines m partners n (x ∷ xs) =
    action_line m.checked (line_at m x.place) x (slice_get partners n) ++ action_lines m partners (n + 1) xs

-- ---- a ring

-- the place of the action of this index
abbrev pub ring_line : System → Option LocalAction → List ℕ
ring_line system None = []
ring_line system (Some x) = codes "  " ++ placed system x.place ++ ending

-- nothing where there is none
abbrev pub ring_lines : System → List LocalAction → List ℕ → List ℕ
ring_lines system actions [] = []
ring_lines system actions (i ∷ ring) =
    numbered_text (codes "ring") (length (i ∷ ring))
    ++ flat_map (λ (j : ℕ). ring_line system (slice_get actions j)) (i ∷ ring)

-- ---- all of it
abbrev pub waiting_text : AtMachine → Waiting → List ℕ
waiting_text m w =
    progress_line w.progress (lacks_input m w)
    ++ ready_lines m.checked w.ready
    ++ numbered_text (codes "waiting") (length w.actions)
    ++ action_lines m w.partners.items 0 w.actions
    ++ ring_lines m.checked w.actions w.ring.items
