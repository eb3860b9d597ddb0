use Rattle.std.proofs.Common.{◌≡◌, ◌++◌, take}
use Rattle.std.specs.Fmt.{decimal}
use Rattle.std.specs.List.{flat_map}
use Rattle.line_text.specs.EventText.{field}
use Rattle.line_text.proofs.answer.add_consequences.Given as goal

-- the tickets passed are written
abbrev pub invariant-loop-ticket : goal.invariant-loop-ticket
invariant-loop-ticket l =
    l.out.items ≡ l.initial.out.items ++ flat_map (λ ticket. field (decimal ticket)) (take l.ticket-index l.tickets)
