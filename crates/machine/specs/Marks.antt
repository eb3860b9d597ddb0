-- Which live events are marked.
use Rattle.std.specs.Prelude.{ℕ, ◌==◌, List, [], not, filter}
use Rattle.runs.specs.Commands.{Reply}

-- the tickets without this one
abbrev pub without_ticket : ℕ → List ℕ → List ℕ
without_ticket t tickets = filter (λ u. not (u == t)) tickets

-- the tickets that are marked after the reply to a command: an event that was undone has lost its mark; a rollback
-- marks what it takes back, and leaves none; a new event has none, and what is refused or only asked changes none
abbrev pub marks_behind : Reply → List ℕ → List ℕ
marks_behind (Reply.Undone t e) marked = without_ticket t marked
marks_behind (Reply.Rolled n) marked = []
marks_behind _ marked = marked
