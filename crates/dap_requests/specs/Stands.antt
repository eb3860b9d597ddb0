-- Where a breakpoint stands.
use Rattle.std.specs.Prelude.{◌≡◌, ℕ, ◌⊎◌, ◌==◌, ◌&&◌, Bool, true, false, not, nat_le, List, Option, None, Some, length}
use Rattle.std.specs.List.{list_any}
use Rattle.system.specs.declared.command.Command.{Command}
use Rattle.dap_moves.specs.Stops.{FirstStop}
use Rattle.dap_views.specs.Lined.{end_of}
use Rattle.dap_views.specs.declared.lines.Lines.{Lines}
use Rattle.dap_requests.specs.declared.breakpoints.TheConstants.{MOST_LINES}

-- whether as many lines stop as may, and this is none of them
abbrev pub is_full : List ℕ → ℕ → Bool
is_full stops line = nat_le MOST_LINES (length stops) && not (list_any (λ y. y == line) stops)

-- where it stands on a line, that is the first, from the one that was asked for on, on which a command can be an action
-- of an event, in the same procedure; it stands on none where there is no such line, or as many others stop as may
abbrev pub StandsOn : Command → Lines → List ℕ → ℕ → Option ℕ → Type 0
StandsOn c lines stops asked None =
    FirstStop c asked (end_of lines asked) None
    ⊎ ((line : ℕ) × FirstStop c asked (end_of lines asked) (Some line) × (is_full stops line ≡ true))
StandsOn c lines stops asked (Some line) =
    FirstStop c asked (end_of lines asked) (Some line) × (is_full stops line ≡ false)
