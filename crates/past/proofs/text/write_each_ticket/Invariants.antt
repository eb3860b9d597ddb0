use Rattle.std.proofs.Common.{◌≡◌, ◌++◌, length, reverse}
use Rattle.std.specs.List.{flat_map}
use Rattle.past.specs.PastText.{ticket_text}
use Rattle.past.proofs.text.write_each_ticket.Given as goal

-- with those that are left, all are written
abbrev pub invariant-tickets : goal.invariant-tickets
invariant-tickets l =
    l.out.items ++ flat_map ticket_text (reverse l.rest) ≡ l.initial.out.items ++ flat_map ticket_text (reverse l.tickets)

abbrev pub decreases-tickets : goal.decreases-tickets
decreases-tickets l = length l.rest
