-- The text of an event, as answers show it.
use Rattle.std.specs.Prelude.{ℕ, List, ◌∷◌, ◌++◌, codes, Option, Some, None}
use Rattle.std.specs.Fmt.{decimal}
use Rattle.value.specs.Word.{Word}
use Rattle.address.specs.Text.{text_of}
use Rattle.address.specs.declared.Entry.{Entry}
use Rattle.system.specs.declared.system.System.{System}
use Rattle.system.specs.Named.{variable_name_at, channel_name_at}
use Rattle.runs.specs.declared.event.Event.{Event}
use Rattle.runs.specs.declared.event.Kind.{Kind}
use Rattle.runs.specs.declared.event.Kind.TheVariants.{Assign, Test, Turn, Meet, Open, Close, Sync}

-- a field behind another: a space and its text
abbrev pub field : List ℕ → List ℕ
field text = 32 ∷ text

-- a name, `?` where there is none
abbrev pub name_text : Option (List ℕ) → List ℕ
name_text None = codes "?"
name_text (Some name) = name

-- the name of the variable of this number
abbrev pub variable_text : System → Option ℕ → List ℕ
variable_text system None = codes "?"
variable_text system (Some number) = name_text (variable_name_at system.variables number)

-- the name of the channel of this number
abbrev pub channel_text : System → Option ℕ → List ℕ
channel_text system None = codes "?"
channel_text system (Some number) = name_text (channel_name_at system.channels number)

-- a value in decimal, `-` where none passes
abbrev pub value_text : Option Word → List ℕ
value_text None = codes "-"
value_text (Some value) = decimal value.bits

-- an arm in decimal, `none` where none is taken
abbrev pub arm_text : Option ℕ → List ℕ
arm_text None = codes "none"
arm_text (Some arm) = decimal arm

-- a place, `?` where there is none
abbrev pub place_text : Option (List Entry) → List ℕ
place_text None = codes "?"
place_text (Some place) = text_of place

-- the text of an event that is shown as this kind
abbrev pub text_by_kind : System → Kind → Event → List ℕ
text_by_kind system Assign e =
    codes "assign" ++ field (variable_text system e.written) ++ field (value_text e.value) ++ field (text_of e.first)
text_by_kind system Turn e = codes "turn" ++ field (text_of e.first)
text_by_kind system Test e = codes "test" ++ field (arm_text e.arm) ++ field (text_of e.first)
text_by_kind system Meet e =
    codes "meet" ++ field (channel_text system e.channel) ++ field (value_text e.value)
    ++ field (text_of e.first) ++ field (place_text e.second)
text_by_kind system Open e =
    codes "open" ++ field (channel_text system e.channel) ++ field (value_text e.value) ++ field (arm_text e.arm)
    ++ field (text_of e.first) ++ field (place_text e.second)
text_by_kind system Close e =
    codes "close" ++ field (channel_text system e.channel) ++ field (text_of e.first) ++ field (place_text e.second)
text_by_kind system Sync e =
    codes "sync" ++ field (channel_text system e.channel) ++ field (text_of e.first) ++ field (place_text e.second)

-- the text of an event
abbrev pub event_text : System → Event → List ℕ
event_text system e = text_by_kind system e.kind e
