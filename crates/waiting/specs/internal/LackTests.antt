-- Whether a run lacks input, as the code tests it.
-- No reader has to believe it: the contract of `Waiting::lacks_input` ties it to `LacksInput`.
use Rattle.std.specs.Prelude.{◌||◌, ◌&&◌, ℕ, ◌+◌, List, [], ◌∷◌, Bool, true, false, not, Option, None, Some, slice_get}
use Rattle.machine.specs.AtMachine.{AtMachine}
use Rattle.local_actions.specs.declared.action.LocalAction.{LocalAction}
use Rattle.rings.specs.declared.partner.Partner.{Partner}
use Rattle.rings.specs.declared.partner.Partner.TheVariants as partner
use Rattle.waiting.specs.Input.{is_starved}
use Rattle.waiting.specs.Progress.{is_idle, is_outlet}
use Rattle.waiting.specs.declared.progress.Progress.{Progress}
use Rattle.waiting.specs.declared.progress.Progress.TheVariants.{GoesOn, Done, Stuck}
use Rattle.waiting.specs.declared.waiting.Waiting.{Waiting}

-- its partner may be there already, or come from more than one branch
abbrev pub is_open : Option Partner → Bool
is_open (Some (partner.Behind a)) = false
is_open (Some partner.Gone) = false
is_open (Some partner.Open) = true
is_open None = false

-- an action of an output port, or one of which it is known where its partner stands
abbrev pub is_settled : LocalAction → Option Partner → Bool
is_settled x p = is_outlet x.action || not (is_open p)

-- one of these actions, of which the first has the partner of number n, waits for more input
abbrev pub any_starved : AtMachine → List Partner → ℕ → List LocalAction → Bool
any_starved m partners n [] = false
any_starved m partners n (x ∷ xs) = is_starved m x (slice_get partners n) || any_starved m partners (n + 1) xs

-- of each of them it is known where its partner stands
abbrev pub all_settled : List Partner → ℕ → List LocalAction → Bool
all_settled partners n [] = true
all_settled partners n (x ∷ xs) = is_settled x (slice_get partners n) && all_settled partners (n + 1) xs

abbrev pub is_stuck : Progress → Bool
is_stuck GoesOn = false
is_stuck Done = false
is_stuck Stuck = true

-- whether there is a mark, and it is set
abbrev pub is_set : Option Bool → Bool
is_set (Some b) = b
is_set None = false

-- none of these actions, of which the first has the mark of number n, stands in the body or is held by it, and is
-- deadlocked
abbrev pub none_deadlocked : List Bool → ℕ → List LocalAction → Bool
none_deadlocked marks n [] = true
none_deadlocked marks n (x ∷ xs) =
    not (not (is_idle x) && is_set (slice_get marks n)) && none_deadlocked marks (n + 1) xs

abbrev pub lacks_input : AtMachine → Waiting → Bool
lacks_input m w =
    is_stuck w.progress
    && none_deadlocked w.deadlocked.items 0 w.actions
    && any_starved m w.partners.items 0 w.actions
    && all_settled w.partners.items 0 w.actions
