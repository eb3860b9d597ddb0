-- The text of the past of an event, a line for each event that is told.
use Rattle.std.specs.Prelude.{◌==◌, ℕ, List, [], ◌∷◌, ◌++◌, Option, None, Some, codes, cond, length, replicate, reverse, slice_get, slice_set}
use Rattle.std.specs.Fmt.{decimal}
use Rattle.std.specs.List.{flat_map}
use Rattle.value.specs.Word.{Word}
use Rattle.system.specs.Named.{channel_name_at, variable_name_at}
use Rattle.system.specs.declared.system.System.{System}
use Rattle.runs.specs.Events.{acting}
use Rattle.runs.specs.Live.{Live, events}
use Rattle.runs.specs.declared.event.Event.{Event}
use Rattle.runs.specs.declared.event.Kind.{Kind}
use Rattle.runs.specs.declared.event.Kind.TheVariants.{Assign, Test, Turn, Meet, Open, Close, Sync}
use Rattle.dependence.specs.EventPlaces.{line_after}
use Rattle.past.specs.declared.held.Held.{Held}
use Rattle.past.specs.declared.past.Past.{Past}
use Rattle.past.specs.declared.past.PastEvent.{PastEvent}

-- the end of a line
abbrev pub ending : List ℕ
ending = 10 ∷ []

-- ---- names and values

-- a name behind a space, `?` where there is none
abbrev pub name_text : Option (List ℕ) → List ℕ
name_text None = codes " ?"
name_text (Some name) = codes " " ++ name

abbrev pub variable_text : System → Option ℕ → List ℕ
variable_text system None = codes " ?"
variable_text system (Some x) = name_text (variable_name_at system.variables x)

abbrev pub channel_text : System → Option ℕ → List ℕ
channel_text system None = codes " ?"
channel_text system (Some c) = name_text (channel_name_at system.channels c)

-- a value, `-` where none was written
abbrev pub value_text : Option Word → List ℕ
value_text None = codes " -"
value_text (Some v) = codes " " ++ decimal v.bits

-- a value that a channel carried, if it carried one
abbrev pub carried_text : Option Word → List ℕ
carried_text None = []
carried_text (Some v) = codes " carries" ++ value_text (Some v)

abbrev pub arm_text : Option ℕ → List ℕ
arm_text None = codes " none"
arm_text (Some k) = codes " arm " ++ decimal k

-- ---- what an event did

-- where a value went that was received
abbrev pub into_text : System → Option ℕ → List ℕ
into_text system None = []
into_text system (Some x) = codes " into" ++ variable_text system (Some x)

abbrev pub deed_by : System → Kind → Event → List ℕ
deed_by system Assign e = variable_text system e.written ++ codes " :=" ++ value_text e.value
deed_by system Test e = codes " test takes" ++ arm_text e.arm
deed_by system Turn e = codes " turn"
deed_by system Meet e = channel_text system e.channel ++ carried_text e.value ++ into_text system e.written
deed_by system Open e = channel_text system e.channel ++ carried_text e.value ++ codes " opens" ++ arm_text e.arm
deed_by system Close e = channel_text system e.channel ++ codes " closes"
deed_by system Sync e = channel_text system e.channel ++ codes " syncs"

abbrev pub deed_text : System → Event → List ℕ
deed_text system e = deed_by system e.kind e

-- ---- what it read

-- what each variable holds, by their numbers
abbrev pub Values : Type 0
Values = List Held

-- 0, written by no step
abbrev pub unwritten : Held
unwritten = record { bits = 0; writer = None }

abbrev pub zeros : System → Values
zeros system = replicate (length system.variables) unwritten

-- the values after the step of ticket t wrote one
abbrev pub written : ℕ → Option ℕ → Option Word → Values → Values
written t (Some x) (Some v) values = slice_set values x (record { bits = v.bits; writer = Some t })
written t (Some x) None values = values
written t None v values = values

abbrev pub noted : ℕ → Event → Values → Values
noted t e values = written t e.written e.value values

-- the step that wrote a value, nothing where none did
abbrev pub writer_text : Option ℕ → List ℕ
writer_text None = []
writer_text (Some t) = codes " of step " ++ decimal t

abbrev pub held_text : Option Held → List ℕ
held_text None = codes " ?"
held_text (Some held) = codes " " ++ decimal held.bits ++ writer_text held.writer

-- a variable, its value, and the step that wrote it
abbrev pub read_text : System → Values → ℕ → List ℕ
read_text system values x = variable_text system (Some x) ++ codes " =" ++ held_text (slice_get values x)

abbrev pub more_read_text : System → Values → ℕ → List ℕ
more_read_text system values x = codes " and" ++ read_text system values x

-- nothing where it read none
abbrev pub reads_text : System → Values → List ℕ → List ℕ
reads_text system values [] = []
reads_text system values (x ∷ xs) =
    codes ", reads" ++ read_text system values x ++ flat_map (more_read_text system values) xs

-- ---- its nearest causes, from tickets that fall

abbrev pub ticket_text : ℕ → List ℕ
ticket_text t = codes " " ++ decimal t

abbrev pub causes_text : List ℕ → List ℕ
causes_text [] = []
causes_text (t ∷ ts) = codes ", after" ++ flat_map ticket_text (reverse (t ∷ ts))

-- ---- all of it

-- where an event stands in the source
abbrev pub line_text : Option ℕ → List ℕ
line_text None = codes " environment:"
line_text (Some line) = codes " line " ++ decimal line ++ codes ":"

-- a line: the ticket, the line in the source, what it did, what it read with the values then and their writers, and its
-- nearest causes
abbrev pub event_line : System → Live → Event → PastEvent → Values → List ℕ
event_line system live e told values =
    codes "  " ++ decimal told.ticket ++ line_text (line_after (events live) system (acting e)) ++ deed_text system e
    ++ reads_text system values e.read ++ causes_text told.causes ++ ending

-- the line of what stands at its index
abbrev pub line_at : System → Live → Option (ℕ × Event) → PastEvent → Values → List ℕ
line_at system live None told values = []
line_at system live (Some x) told values = event_line system live x.1 told values

abbrev pub noted_at : Option (ℕ × Event) → Values → Values
noted_at None values = values
noted_at (Some x) values = noted x.0 x.1 values

-- those that are told have a line each, with the values behind those before it (`Laws.antt`: as they were read)
abbrev pub past_lines : System → Live → List PastEvent → Values → List ℕ
past_lines system live [] values = []
past_lines system live (p ∷ told) values =
    line_at system live (slice_get live p.index) p values
    ++ past_lines system live told (noted_at (slice_get live p.index) values)

-- how many are left out
abbrev pub more_left_out : ℕ → List ℕ
more_left_out n = decimal n ++ codes " steps without a value left out: --all" ++ ending

abbrev pub left_out_line : ℕ → List ℕ
left_out_line n =
    cond (n == 0) [] (cond (n == 1) (codes "1 step without a value left out: --all" ++ ending) (more_left_out n))

abbrev pub past_text : System → Live → Past → List ℕ
past_text system live past =
    past_lines system live past.events (zeros system) ++ left_out_line past.left_out
