-- What an event asks for at each of its places, and what a move answers to: an `Ask` of `src/ask.rt`.
use Rattle.std.specs.Prelude.{ℕ, List, [], ◌∷◌, true, false, Option, Some, None}
use Rattle.value.specs.Word.{Word}
use Rattle.runs.specs.Moves.{Place, Move, assigns, tests, turns, sends, receives, syncs, opens, releases, closes}
use Rattle.runs.specs.declared.ask.Ask.{Ask}
use Rattle.runs.specs.declared.ask.Ask.TheVariants as ask
use Rattle.runs.specs.declared.event.Event.{Event}
use Rattle.runs.specs.declared.event.Kind.{Kind}
use Rattle.runs.specs.declared.event.Kind.TheVariants.{Assign, Test, Turn, Meet, Open, Close, Sync}

-- what a move answers to
abbrev pub ask_of : Move → Ask
ask_of (assigns x w e) = ask.Assign
ask_of (tests d k) = ask.Test k
ask_of turns = ask.Turn
ask_of (sends c w e false) = ask.Send
ask_of (sends c w e true) = ask.Hold
ask_of (receives c x) = ask.Receive
ask_of (syncs c false) = ask.Sync
ask_of (syncs c true) = ask.Hold
ask_of (opens c k v) = ask.Open k v
ask_of (releases c) = ask.Release
ask_of (closes c) = ask.Close

-- what an event of this kind asks for, and at which places; `None` where a place or an arm is missing
abbrev pub asked_by : Kind → Place → Option Place → Option ℕ → Option Word → Option (List (Place × Ask))
asked_by Assign a b k v = Some ((a, ask.Assign) ∷ [])
asked_by Test a b k v = Some ((a, ask.Test k) ∷ [])
asked_by Turn a b k v = Some ((a, ask.Turn) ∷ [])
asked_by Meet a None k v = None
asked_by Meet a (Some b) k v = Some ((a, ask.Send) ∷ (b, ask.Receive) ∷ [])
asked_by Open a None k v = None
asked_by Open a (Some b) None v = None
asked_by Open a (Some b) (Some k) v = Some ((a, ask.Hold) ∷ (b, ask.Open k v) ∷ [])
asked_by Close a None k v = None
asked_by Close a (Some b) k v = Some ((a, ask.Release) ∷ (b, ask.Close) ∷ [])
asked_by Sync a None k v = None
asked_by Sync a (Some b) k v = Some ((a, ask.Sync) ∷ (b, ask.Sync) ∷ [])

-- what an event asks for, and at which places
abbrev pub asked : Event → Option (List (Place × Ask))
asked e = asked_by e.kind e.first e.second e.arm e.value
