-- The lines of answers that show numbers, events and refusals.
use Rattle.std.specs.Prelude.{ℕ, List, [], ◌∷◌, ◌++◌, codes, length}
use Rattle.std.specs.List.{flat_map}
use Rattle.std.specs.Fmt.{decimal}
use Rattle.syntax.specs.Texts.{line_end}
use Rattle.system.specs.declared.system.System.{System}
use Rattle.runs.specs.Refusals.{refusal_number}
use Rattle.runs.specs.declared.event.Event.{Event}
use Rattle.runs.specs.declared.command.Refusal.{Refusal}
use Rattle.runs.specs.declared.command.Refusal.TheVariants.{NeededBy}
use Rattle.line_text.specs.EventText.{field, event_text}

-- the end of a line
abbrev pub ending : List ℕ
ending = line_end ∷ []

-- a word and a number
abbrev pub numbered_text : List ℕ → ℕ → List ℕ
numbered_text word number = word ++ field (decimal number) ++ ending

-- a word, a ticket and an event
abbrev pub entry_text : System → List ℕ → ℕ → Event → List ℕ
entry_text system word ticket e = word ++ field (decimal ticket) ++ field (event_text system e) ++ ending

-- a line of the list of ready events
abbrev pub ready_line : System → Event → List ℕ
ready_line system e = codes "  " ++ event_text system e ++ ending

-- a line of the list of live events
abbrev pub live_line : System → ℕ × Event → List ℕ
live_line system pair = codes "  " ++ decimal pair.0 ++ field (event_text system pair.1) ++ ending

-- how many events are ready, and a line for each
abbrev pub ready_text : System → List Event → List ℕ
ready_text system events =
    codes "ready" ++ field (decimal (length events)) ++ ending ++ flat_map (ready_line system) events

-- the tickets of consequences, in one line
abbrev pub consequences_text : List ℕ → List ℕ
consequences_text tickets = codes "consequences" ++ flat_map (λ ticket. field (decimal ticket)) tickets ++ ending

-- how many events are live, and a line for each
abbrev pub live_text : System → List (ℕ × Event) → List ℕ
live_text system pairs = codes "live" ++ field (decimal (length pairs)) ++ ending ++ flat_map (live_line system) pairs

-- a value, behind the name of its variable
abbrev pub valued_text : List ℕ → ℕ → List ℕ
valued_text name bits = codes "value" ++ field name ++ field (decimal bits) ++ ending

-- the number of a refusal, and what it names
abbrev pub refusal_text : Refusal → List ℕ
refusal_text (NeededBy ticket) = field (decimal 24) ++ field (decimal ticket)
refusal_text why = field (decimal (refusal_number why))
