-- The short messages as objects of JSON.
use Rattle.std.specs.Prelude.{ℕ, ◌≡◌, ◌<◌, ◌^◌, Bool, true, false, List, [], ◌∷◌, ◌++◌, Some, if◌then◌else◌, codes, string_bytes}
use Rattle.std.specs.Fmt.{decimal}
use Rattle.serde_json.specs.Data.{Data, Members, boolean, no_members, number, object, put, string, unsigned}
use Rattle.serde_json.specs.Read.{read}
use Rattle.dap_messages.specs.Arguments.{is_single}
use Rattle.dap_messages.specs.Messages.{event_name, reason_of}
use Rattle.dap_messages.specs.declared.kind.Kind.{Kind}
use Rattle.dap_messages.specs.declared.request.Request.{Request}
use Rattle.dap_messages.specs.declared.told.Stop.{Stop}
use Rattle.dap_messages.specs.declared.told.Told.{Told}
use Rattle.dap_server.specs.Heard.{Passed, words_for}
use Rattle.dap_server.specs.Short.{needs_more, short_event, short_line, short_name, short_response, thread_named}
use Rattle.dap_server.specs.declared.gist.Gist.{Gist}

-- these members, by their names
abbrev pub members_of : List (List ℕ × Data) → Members
members_of [] = no_members
members_of (m ∷ ms) = put m.0 m.1 (members_of ms)

-- an object with these members
abbrev pub object_of : List (List ℕ × Data) → Data
object_of ms = object (members_of ms)

-- a whole number
abbrev pub whole : ℕ → Data
whole n = number (unsigned n)

-- an event of this number and this name, and what else it has
abbrev pub event_object : ℕ → List ℕ → List (List ℕ × Data) → Data
event_object seq name more =
    object_of
    ((codes "seq", whole seq) ∷ (codes "type", string (codes "event")) ∷ (codes "event", string name) ∷ more)

-- a line that an `output` tells
abbrev pub line_object : List ℕ → ℕ → Data
line_object line seq =
    event_object seq (codes "output")
    ((
      codes "body",
      object_of
          ((codes "category", string (codes "stderr"))
          ∷ (codes "output", string (codes "balsadbg: " ++ line ++ codes "\n")) ∷ []),
    )
    ∷ [])

-- the response of this number to the request, whether that is done, and what else it has
abbrev pub response_object : Request → ℕ → Bool → List (List ℕ × Data) → Data
response_object request seq success more =
    object_of
    ((codes "seq", whole seq)
    ∷ (codes "type", string (codes "response"))
    ∷ (codes "request_seq", whole request.seq)
    ∷ (codes "command", string (short_name (string_bytes request.command)))
    ∷ (codes "success", boolean success)
    ∷ more)

-- that it is refused, for the reason of this number, in these words
abbrev pub refused_object : Request → ℕ → ℕ → List ℕ → Data
refused_object request seq why words =
    response_object request seq false
    ((codes "message", string (codes "refused " ++ decimal why ++ codes ": " ++ words))
    ∷ (
      codes "body",
      object_of
          ((
            codes "error",
            object_of
                ((codes "id", whole why) ∷ (codes "format", string words) ∷ (codes "showUser", boolean true) ∷ []),
          )
          ∷ []),
    )
    ∷ [])

-- the body of a response that it is done, which is of one thread alone or not
abbrev pub success_body : Kind → Bool → List (List ℕ × Data)
success_body Kind.Continue true = (codes "body", object_of ((codes "allThreadsContinued", boolean false) ∷ [])) ∷ []
success_body Kind.Continue false = (codes "body", object_of ((codes "allThreadsContinued", boolean true) ∷ [])) ∷ []
success_body Kind.Evaluate single = (
  codes "body",
  object_of
      ((codes "result", string (codes "done; there is no memory left to tell more"))
      ∷ (codes "variablesReference", whole 0) ∷ []),
)
    ∷ []
success_body _ single = []

-- that it is done; where the protocol wants more, this is refused, and the words say that it is done
abbrev pub done_object : Request → ℕ → Data
done_object request seq =
    if needs_more request.kind then refused_object request seq 1
    (codes "it is done, and there is no memory left to tell more")
    else response_object request seq true (success_body request.kind (is_single request))

-- what came of it
abbrev pub result_object : Request → Gist → ℕ → Data
result_object request (Gist.Refused why) seq =
    refused_object request seq why (codes "there is no memory left to say why")
result_object request Gist.Untold seq = refused_object request seq 1 (codes "there is no memory left")
result_object request Gist.Done seq = done_object request seq
result_object request (Gist.Due told) seq = done_object request seq

-- the words of a `stopped`
abbrev pub stop_words : Stop → List ℕ
stop_words Stop.AtLine = codes "stopped at a breakpoint; there is no memory left to tell more"
stop_words (Stop.Refused why excepts) = codes "refused " ++ decimal why ++ codes "; there is no memory left to tell more"
stop_words _ = codes "stopped; there is no memory left to tell more"

-- what an event has beside its name
abbrev pub event_body : Request → Told → List (List ℕ × Data)
event_body request (Told.Stopped stop) = (
  codes "body",
  object_of
      ((codes "reason", string (reason_of stop))
      ∷ (codes "threadId", whole (thread_named request))
      ∷ (codes "allThreadsStopped", boolean true)
      ∷ (codes "text", string (stop_words stop)) ∷ []),
)
    ∷ []
event_body request _ = []

-- the numbers in what is told of a request have 64 bits
abbrev pub IsSmall : Gist → Type 0
IsSmall (Gist.Refused why) = why < 2 ^ 64
IsSmall _ = Unit {0}

abbrev pub IsSmallStop : Told → Type 0
IsSmallStop (Told.Stopped (Stop.Refused why excepts)) = why < 2 ^ 64
IsSmallStop _ = Unit {0}

-- each line that is told of a message that is passed over is JSON, of an `output`
abbrev pub LinesAreEvents : Type 0
LinesAreEvents =
    (why : Passed) (seq : ℕ) → seq < 2 ^ 64
    → read (short_line (words_for why) seq) ≡ Some (line_object (words_for why) seq)

-- each short response is JSON, of a response to its request
abbrev pub ShortResponses : Type 0
ShortResponses =
    (request : Request) (gist : Gist) (seq : ℕ) → seq < 2 ^ 64 → request.seq < 2 ^ 64 → IsSmall gist
    → read (short_response request gist seq) ≡ Some (result_object request gist seq)

-- each short event is JSON, of that event
abbrev pub ShortEvents : Type 0
ShortEvents =
    (request : Request) (told : Told) (seq : ℕ) → seq < 2 ^ 64 → thread_named request < 2 ^ 64 → IsSmallStop told
    → read (short_event request told seq) ≡ Some (event_object seq (event_name told) (event_body request told))
