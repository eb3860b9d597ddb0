-- What bare numbers mean behind a reply, as the code makes them.
-- No reader has to believe it: what it leads to is `numbers_behind` of `Does.antt`.
use Rattle.std.specs.Prelude.{◌≡◌, ◌⊎◌, List, Bool, true, false, map, Option, Some, None, Vec}
use Rattle.runs.specs.declared.command.Refusal.TheVariants.{Memory}
use Rattle.locked_execution.specs.declared.command.Command.{Command}
use Rattle.locked_execution.specs.declared.command.Reply.{Reply}
use Rattle.shell_desk.specs.Does.{step_of}

-- whether the reply lists the events that are ready
abbrev pub is_list : Reply → Bool
is_list (Reply.Ready events) = true
is_list _ = false

-- the reply is told, or of such a list that there is no memory for it
abbrev pub IsTold : Reply → Reply → Type 0
IsTold reply told = (told ≡ reply) ⊎ ((is_list reply ≡ true) × (told ≡ Reply.Refused Memory))

-- the commands that a list of ready events numbers
abbrev pub numbers_of : Reply → Option (List Command)
numbers_of (Reply.Ready events) = Some (map step_of events)
numbers_of _ = None

-- these, where they are given, else those before
abbrev pub given_or : Option (List Command) → List Command → List Command
given_or None before = before
given_or (Some numbers) before = numbers

-- the commands that were made
abbrev pub made_of : {A : Type 0} → Option (Vec Command A) → Option (List Command)
made_of None = None
made_of (Some numbers) = Some numbers.items
