-- The result of each call on a machine, as the reply of its execution that it stands for.
use Rattle.std.specs.Prelude.{ℕ, Option, Some, None, Result, Ok, Err, Vec}
use Rattle.std.specs.Global.{Global}
use Rattle.value.specs.Word.{Word}
use Rattle.runs.specs.declared.event.Event.{Event}
use Rattle.runs.specs.Commands.{Reply}
use Rattle.runs.specs.declared.command.Refusal.{Refusal}
use Rattle.runs.specs.declared.command.Refusal.TheVariants.{NeverWritten}

-- of a step: the ticket and the event
abbrev pub step_reply : Result (ℕ × Event) Refusal → Reply
step_reply (Ok entry) = Reply.Stepped entry.0 entry.1
step_reply (Err why) = Reply.Refused why

-- of the undo of ticket t: the event
abbrev pub undo_reply : ℕ → Result Event Refusal → Reply
undo_reply t (Ok e) = Reply.Undone t e
undo_reply t (Err why) = Reply.Refused why

-- of a rollback: how many events are gone
abbrev pub roll_reply : Result ℕ Refusal → Reply
roll_reply (Ok n) = Reply.Rolled n
roll_reply (Err why) = Reply.Refused why

-- of the question for the last writer: its ticket
abbrev pub blame_reply : Result ℕ Refusal → Reply
blame_reply (Ok t) = Reply.Blamed t
blame_reply (Err why) = Reply.Refused why

-- of the question for what depends on an event: the tickets
abbrev pub consequences_reply : Result (Vec ℕ Global) Refusal → Reply
consequences_reply (Ok tickets) = Reply.Consequences tickets.items
consequences_reply (Err why) = Reply.Refused why

-- of the question for what may be taken: the events
abbrev pub ready_reply : Result (Vec Event Global) Refusal → Reply
ready_reply (Ok es) = Reply.Ready es.items
ready_reply (Err why) = Reply.Refused why

-- of the question for what is live: the events with their tickets
abbrev pub live_reply : Result (Vec (ℕ × Event) Global) Refusal → Reply
live_reply (Ok l) = Reply.Live l.items
live_reply (Err why) = Reply.Refused why

-- of the question for a value: none, where there is no such variable
abbrev pub value_reply : Option Word → Reply
value_reply (Some v) = Reply.Value v
value_reply None = Reply.Refused NeverWritten
