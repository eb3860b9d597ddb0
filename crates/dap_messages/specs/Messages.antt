-- The messages that answer a request.
use Rattle.std.specs.Prelude.{ℕ, ◌≡◌, ◌+◌, Bool, true, false, List, [], ◌∷◌, ◌++◌, Some, None, codes, option_and_then, string_bytes}
use Rattle.std.specs.Option.{option_map}
use Rattle.serde_json.specs.Data.{Data, boolean, string, number, unsigned}
use Rattle.serde_json.specs.Find.{get, get_member}
use Rattle.serde_json.specs.View.{members_view, view}
use Rattle.dap_messages.specs.Written.{Has, Holds}
use Rattle.dap_messages.specs.declared.answer.Answer.{Answer}
use Rattle.dap_messages.specs.declared.answer.Note.{Note}
use Rattle.dap_messages.specs.declared.answer.Outcome.{Outcome}
use Rattle.dap_messages.specs.declared.members.Members.{Members}
use Rattle.dap_messages.specs.declared.message.Message.{Message}
use Rattle.dap_messages.specs.declared.request.Request.{Request}
use Rattle.dap_messages.specs.declared.told.Stop.{Stop}
use Rattle.dap_messages.specs.declared.told.Told.{Told}

-- the name of an event in the protocol
abbrev pub event_name : Told → List ℕ
event_name Told.Initialized = codes "initialized"
event_name Told.Output = codes "output"
event_name (Told.Stopped stop) = codes "stopped"
event_name Told.Exited = codes "exited"
event_name Told.Terminated = codes "terminated"
event_name Told.Breakpoint = codes "breakpoint"

-- the reason of a `stopped` in the protocol
abbrev pub reason_of : Stop → List ℕ
reason_of Stop.Entry = codes "entry"
reason_of Stop.Stepped = codes "step"
reason_of Stop.Pause = codes "pause"
reason_of Stop.AtLine = codes "breakpoint"
reason_of Stop.Watched = codes "data breakpoint"
reason_of (Stop.Refused why true) = codes "exception"
reason_of (Stop.Refused why false) = codes "step"

-- whether a request is done
abbrev pub is_done : Outcome → Bool
is_done (Outcome.Done body) = true
is_done (Outcome.Refused why words) = false

-- this event, with its body if it has one
pub record IsEvent (note : Note) (m : Message) : Type 0 where
  pub answers : m.answers ≡ None
  pub type : Has m.members (codes "type") (string (codes "event"))
  pub event : Has m.members (codes "event") (string (event_name note.told))
  pub body : Holds m.members (codes "body") (option_map view note.body)

-- the error that is told has this number, where there was memory for all members
abbrev pub HasError : Members → ℕ → Type 0
HasError ms why =
    ms.lacks ≡ false →
    (body : Data) × (get_member (codes "body") (members_view ms.made.entries) ≡ Some body)
    × (option_and_then (get (codes "id")) (get (codes "error") body) ≡ Some (number (unsigned why)))

-- it tells what came of a request: the body, if there is one; or these words, and the number of the reason
abbrev pub TellsOutcome : Outcome → Members → Type 0
TellsOutcome (Outcome.Done body) ms = Holds ms (codes "body") (option_map view body)
TellsOutcome (Outcome.Refused why words) ms = Has ms (codes "message") (string (string_bytes words)) × HasError ms why

-- the response to the request, of which this came
pub record IsResponse (request : Request) (outcome : Outcome) (m : Message) : Type 0 where
  pub answers : m.answers ≡ Some request.seq
  pub type : Has m.members (codes "type") (string (codes "response"))
  pub request_seq : Has m.members (codes "request_seq") (number (unsigned request.seq))
  pub command : Has m.members (codes "command") (string (string_bytes request.command))
  pub success : Has m.members (codes "success") (boolean (is_done outcome))
  pub tells : TellsOutcome outcome m.members

-- these events, one after another, numbered on from `next`
abbrev pub AreEvents : ℕ → List Note → List Message → Type 0
AreEvents next [] [] = Unit {0}
AreEvents next (note ∷ notes) (m ∷ ms) = (m.seq ≡ next) × IsEvent note m × AreEvents (next + 1) notes ms
AreEvents next _ _ = ⊥

-- behind the messages there are these events more, numbered on from `next`
abbrev pub EventsAdded : List Message → ℕ → List Note → List Message → Type 0
EventsAdded before next notes after = (more : List Message) × (after ≡ before ++ more) × AreEvents next notes more

-- the first message is the response to the request, and behind it come the events of the answer and no others; they are
-- numbered on from `next`
abbrev pub IsAnswerTo : Request → Answer → ℕ → List Message → Type 0
IsAnswerTo request answer next [] = ⊥
IsAnswerTo request answer next (m ∷ ms) =
    (m.seq ≡ next) × IsResponse request answer.outcome m × AreEvents (next + 1) answer.notes.items ms
