use Rattle.std.proofs.Common.{◌≡◌, ℕ, map}
use Rattle.std.specs.Fmt.{decimal}
use Rattle.runs.specs.declared.event.Event.{Event}
use Rattle.json_text.specs.Values.{with_values}
use Rattle.picture_text.proofs.steps.add_all_tickets.Given as goal

-- with those that are left, all are there
abbrev pub invariant-loop-ticket : goal.invariant-loop-ticket
invariant-loop-ticket l =
    with_values l.json (map (λ (x : ℕ × Event). decimal x.0) l.ticket-iterator)
    ≡ with_values l.initial.json (map (λ (x : ℕ × Event). decimal x.0) l.live.live)
