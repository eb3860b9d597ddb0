-- The messages that are sent where there is no memory for others, word for word.
use Rattle.std.specs.Prelude.{ℕ, ◌+◌, ◌++◌, ◌&&◌, Bool, true, false, Option, None, Some, if◌then◌else◌, nat_lt, List, [], ◌∷◌, length, unwrap_or, codes, string_bytes}
use Rattle.std.specs.Fmt.{decimal}
use Rattle.std.specs.Char.{is_ascii_alphanumeric}
use Rattle.serde_json.specs.View.{view}
use Rattle.dap_messages.specs.Arguments.{is_single, number_named}
use Rattle.dap_messages.specs.Messages.{event_name, reason_of}
use Rattle.dap_messages.specs.declared.answer.Effect.{Effect}
use Rattle.dap_messages.specs.declared.answer.Outcome.{Outcome}
use Rattle.dap_messages.specs.declared.kind.Kind.{Kind}
use Rattle.dap_messages.specs.declared.request.Request.{Request}
use Rattle.dap_messages.specs.declared.told.Stop.{Stop}
use Rattle.dap_messages.specs.declared.told.Told.{Told}
use Rattle.dap_server.specs.declared.gist.Gist.{Gist}

-- what came of a request that is done
abbrev pub done_by : Effect → Gist
done_by Effect.Nothing = Gist.Untold
done_by Effect.Done = Gist.Done
done_by (Effect.Due told) = Gist.Due told

-- what came of a request
abbrev pub gist_of : Outcome → Effect → Gist
gist_of (Outcome.Refused why words) effect = Gist.Refused why
gist_of (Outcome.Done body) effect = done_by effect

-- how a message begins: with its number
abbrev pub numbered : ℕ → List ℕ
numbered seq = codes "{\"seq\":" ++ decimal seq

-- how a response begins
abbrev pub response_head : ℕ → ℕ → List ℕ
response_head request seq = numbered seq ++ (codes ",\"type\":\"response\",\"request_seq\":" ++ decimal request)

-- how an event begins
abbrev pub event_head : ℕ → List ℕ
event_head seq = numbered seq ++ codes ",\"type\":\"event\",\"event\":\""

-- what stands before the name of a request
abbrev pub command_key : List ℕ
command_key = codes ",\"command\":\""

-- letters and digits alone
abbrev pub is_plain : List ℕ → Bool
is_plain [] = true
is_plain (x ∷ xs) = is_ascii_alphanumeric x && is_plain xs

-- the name of a request, where it needs no signs of its own in JSON
abbrev pub short_name : List ℕ → List ℕ
short_name name = if nat_lt (length name) 64 && is_plain name then name else codes "unknown"

-- that a request is refused, for the reason of this number, in these words
abbrev pub refusal_text : ℕ → List ℕ → List ℕ
refusal_text why words =
    (codes "\",\"success\":false,\"message\":\"refused " ++ decimal why ++ codes ": " ++ words)
    ++ (codes "\",\"body\":{\"error\":{\"id\":" ++ decimal why ++ codes ",\"format\":\"" ++ words
    ++ codes "\",\"showUser\":true}}}")

-- whether the protocol wants more with a response that such a request is done than there is memory for
abbrev pub needs_more : Kind → Bool
needs_more Kind.Initialize = true
needs_more Kind.SetBreakpoints = true
needs_more Kind.SetDataBreakpoints = true
needs_more _ = false

-- that all threads go on, or one alone
abbrev pub continued_text : Bool → List ℕ
continued_text false = codes "\",\"success\":true,\"body\":{\"allThreadsContinued\":true}}"
continued_text true = codes "\",\"success\":true,\"body\":{\"allThreadsContinued\":false}}"

-- that another request is done, which is of one thread alone or not
abbrev pub success_text : Kind → Bool → List ℕ
success_text Kind.Continue single = continued_text single
success_text Kind.Evaluate single =
    codes
    "\",\"success\":true,\"body\":{\"result\":\"done; there is no memory left to tell more\",\"variablesReference\":0}}"
success_text _ single = codes "\",\"success\":true}"

-- that a request is done; where more is wanted, this is refused, and the words say that it is done
abbrev pub done_text : Request → List ℕ
done_text request =
    if needs_more request.kind then refusal_text 1 (codes "it is done, and there is no memory left to tell more")
    else success_text request.kind (is_single request)

-- what came of a request
abbrev pub result_text : Request → Gist → List ℕ
result_text request (Gist.Refused why) = refusal_text why (codes "there is no memory left to say why")
result_text request Gist.Untold = refusal_text 1 (codes "there is no memory left")
result_text request Gist.Done = done_text request
result_text request (Gist.Due told) = done_text request

-- the response to a request
abbrev pub short_response : Request → Gist → ℕ → List ℕ
short_response request gist seq =
    ((response_head request.seq seq ++ command_key) ++ short_name (string_bytes request.command))
    ++ result_text request gist

-- the thread that a request names, else the first
abbrev pub thread_named : Request → ℕ
thread_named request = unwrap_or (number_named (codes "threadId") (view request.arguments)) 1

-- why nothing moves, up to the number of the thread
abbrev pub stop_head : Stop → List ℕ
stop_head stop = codes "\",\"body\":{\"reason\":\"" ++ reason_of stop ++ codes "\",\"threadId\":"

-- that a step was refused, for the reason of this number
abbrev pub refused_words : ℕ → List ℕ
refused_words why = codes "refused " ++ decimal why ++ codes "; there is no memory left to tell more\"}}"

-- the same, and all that is left
abbrev pub refused_rest : ℕ → List ℕ
refused_rest why = codes ",\"allThreadsStopped\":true,\"text\":\"" ++ refused_words why

-- the same in words, and all that is left
abbrev pub stop_rest : Stop → List ℕ
stop_rest Stop.AtLine =
    codes ",\"allThreadsStopped\":true,\"text\":\"stopped at a breakpoint; there is no memory left to tell more\"}}"
stop_rest (Stop.Refused why excepts) = refused_rest why
stop_rest _ = codes ",\"allThreadsStopped\":true,\"text\":\"stopped; there is no memory left to tell more\"}}"

-- that nothing moves
abbrev pub stopped_text : Stop → ℕ → List ℕ
stopped_text stop thread = (stop_head stop ++ decimal thread) ++ stop_rest stop

-- what stands behind the name of an event
abbrev pub event_rest : Request → Told → List ℕ
event_rest request (Told.Stopped stop) = stopped_text stop (thread_named request)
event_rest request _ = codes "\"}"

-- the event that has to come behind the response to a request
abbrev pub short_event : Request → Told → ℕ → List ℕ
short_event request told seq = (event_head seq ++ event_name told) ++ event_rest request told

-- which event that is, if one has to come
abbrev pub due_of : Gist → Option Told
due_of (Gist.Due told) = Some told
due_of _ = None

-- its message, if one has to come
abbrev pub due_bodies : Request → Option Told → ℕ → List (List ℕ)
due_bodies request None seq = []
due_bodies request (Some told) seq = short_event request told seq ∷ []

-- the messages that answer a request, numbered on from `seq`
abbrev pub short_bodies : Request → Gist → ℕ → List (List ℕ)
short_bodies request gist seq = short_response request gist seq ∷ due_bodies request (due_of gist) (seq + 1)

-- what stands before a line that an event tells, and behind it
abbrev pub line_key : List ℕ
line_key = codes "output\",\"body\":{\"category\":\"stderr\",\"output\":\"balsadbg: "

abbrev pub line_end : List ℕ
line_end = codes "\\n\"}}"

-- an event that tells a line
abbrev pub short_line : List ℕ → ℕ → List ℕ
short_line line seq = ((event_head seq ++ line_key) ++ line) ++ line_end
