-- Short events are JSON.
use Rattle.std.proofs.Common.{◌≡◌, ◌^◌, ◌<◌, ◌≤◌, ℕ, Bool, true, false, List, [], ◌∷◌, ◌++◌, Option, Some, refl, sym, ap, ap₂, ◌∙◌, append_assoc, arith, codes, decimal}
use Rattle.std.specs.Prelude.{option_and_then}
use Rattle.std.specs.Option.{option_map}
use Rattle.std.proofs.lemmas.List.Concat.{flat_map-append}
use Rattle.json.specs.Json as json
use Rattle.json.specs.Print.{escape, escape_byte, print, print_from}
use Rattle.json.specs.Tree as tree
use Rattle.json.specs.Tree.{json_tokens}
use Rattle.json.proofs.Printed.Decimals.{IsNumber-decimal}
use Rattle.serde_json.specs.Data.{Data, Members, boolean, no_members, number, object, put, string, unsigned}
use Rattle.serde_json.specs.Read.{of_members, read}
use Rattle.serde_json.proofs.Numbers.{number_of-decimal}
use Rattle.dap_messages.specs.Messages.{event_name, reason_of}
use Rattle.dap_messages.specs.declared.request.Request.{Request}
use Rattle.dap_messages.specs.declared.told.Stop.{Stop}
use Rattle.dap_messages.specs.declared.told.Told.{Told}
use Rattle.dap_server.specs.Objects.{ShortEvents, event_body, event_object, stop_words}
use Rattle.dap_server.specs.Short.{event_head, event_rest, short_event, stopped_text, thread_named}
use Rattle.dap_server.proofs.Printing.{number_put, reads_text}
use Rattle.dap_server.proofs.ShortForms.{decimal_plain, printed}

-- the tree of an event, with what stands in it behind its name
abbrev event_json : ℕ → List ℕ → json.Members → json.Json
event_json seq name rest =
    json.object
    (json.member (codes "seq") (json.number (decimal seq))
    (json.member (codes "type") (json.string (codes "event")) (json.member (codes "event") (json.string name) rest)))

join_event : (p d a n z : List ℕ) → (((p ++ d) ++ a) ++ n) ++ 34 ∷ z ≡ p ++ (d ++ (a ++ ((n ++ 34 ∷ []) ++ z)))
join_event p d a n z = simp append_assoc

event_text : (seq : ℕ) (name : List ℕ) (rest : json.Members) → escape name ≡ name →
    (event_head seq ++ name) ++ 34 ∷ printed rest ≡ print (json_tokens (event_json seq name rest))
unfolding print_from escape_byte
event_text seq name rest plain =
    join_event (codes "{\"seq\":") (decimal seq) (codes ",\"type\":\"event\",\"event\":\"") name (printed rest)
    ∙ ap (λ (n : List ℕ). codes "{\"seq\":" ++ (decimal seq ++ (codes ",\"type\":\"event\",\"event\":\"" ++ ((n ++ 34 ∷ []) ++ printed rest)))) (sym plain)

-- the members that it has then
abbrev event_members : ℕ → List ℕ → Members
event_members seq name =
    put (codes "event") (string name) (put (codes "type") (string (codes "event")) (put (codes "seq") (number (unsigned seq)) no_members))

event_reads : (seq : ℕ) (name : List ℕ) (rest : json.Members) (found : Members) (text : List ℕ) → seq < 2 ^ 64 → escape name ≡ name →
    tree.MembersHaveNumbers rest → tree.members_depth rest ≤ 1 → text ≡ 34 ∷ printed rest → of_members rest (event_members seq name) ≡ Some found →
    read ((event_head seq ++ name) ++ text) ≡ Some (object found)
event_reads seq name rest found text small plain numbers shallow is h =
    reads_text (event_json seq name rest) (object found) ((event_head seq ++ name) ++ text)
    (ap (λ (t : List ℕ). (event_head seq ++ name) ++ t) is ∙ event_text seq name rest plain)
    (IsNumber-decimal seq small, (tt, (tt, numbers))) (omega arith)
    (ap (λ (o : Option Members). option_map object o)
    (number_put (codes "seq") (decimal seq) (unsigned seq)
    (json.member (codes "type") (json.string (codes "event")) (json.member (codes "event") (json.string name) rest)) no_members
    (number_of-decimal seq small) ∙ h))

-- the tree of the body of a `stopped`
abbrev stop_json : List ℕ → ℕ → List ℕ → json.Members
stop_json reason thread words =
    json.member (codes "body")
    (json.object
    (json.member (codes "reason") (json.string reason)
    (json.member (codes "threadId") (json.number (decimal thread))
    (json.member (codes "allThreadsStopped") (json.boolean true) (json.member (codes "text") (json.string words) json.no_members)))))
    json.no_members

-- its text
abbrev stop_text : List ℕ → ℕ → List ℕ → List ℕ
stop_text reason thread words =
    (((codes "\",\"body\":{\"reason\":\"" ++ reason) ++ codes "\",\"threadId\":") ++ decimal thread)
    ++ (codes ",\"allThreadsStopped\":true,\"text\":\"" ++ (words ++ codes "\"}}"))

join_stop : (b r c t x w z : List ℕ) → (((b ++ r) ++ 34 ∷ c) ++ t) ++ (x ++ (w ++ 34 ∷ z)) ≡ b ++ ((r ++ 34 ∷ []) ++ (c ++ (t ++ (x ++ ((w ++ 34 ∷ []) ++ z)))))
join_stop b r c t x w z = simp append_assoc

stop_printed : (reason words : List ℕ) (thread : ℕ) → escape reason ≡ reason → escape words ≡ words →
    stop_text reason thread words ≡ 34 ∷ printed (stop_json reason thread words)
unfolding print_from escape_byte
stop_printed reason words thread one two =
    join_stop (codes "\",\"body\":{\"reason\":\"") reason (codes ",\"threadId\":") (decimal thread) (codes ",\"allThreadsStopped\":true,\"text\":\"") words (codes "}}")
    ∙ ap₂
    (λ (r w : List ℕ). codes "\",\"body\":{\"reason\":\"" ++ ((r ++ 34 ∷ []) ++ (codes ",\"threadId\":" ++ (decimal thread
    ++ (codes ",\"allThreadsStopped\":true,\"text\":\"" ++ ((w ++ 34 ∷ []) ++ codes "}}"))))))
    (sym one) (sym two)

-- a `stopped` is read, where its words are known
stop_reads : (request : Request) (stop : Stop) (seq : ℕ) → seq < 2 ^ 64 → thread_named request < 2 ^ 64 → escape (reason_of stop) ≡ reason_of stop →
    escape (stop_words stop) ≡ stop_words stop → stopped_text stop (thread_named request) ≡ stop_text (reason_of stop) (thread_named request) (stop_words stop) →
    read (short_event request (Told.Stopped stop) seq) ≡ Some (event_object seq (codes "stopped") (event_body request (Told.Stopped stop)))
unfolding escape_byte
stop_reads request stop seq small thread one two text =
    event_reads seq (codes "stopped") (stop_json (reason_of stop) (thread_named request) (stop_words stop)) _ (stopped_text stop (thread_named request))
    small refl ((tt, (IsNumber-decimal (thread_named request) thread, (tt, (tt, tt)))), tt) (omega arith)
    (text ∙ stop_printed (reason_of stop) (stop_words stop) (thread_named request) one two)
    (ap
    (λ (o : Option Members). option_and_then (λ (d : Data). Some (put (codes "body") d (event_members seq (codes "stopped")))) (option_map object o))
    (number_put (codes "threadId") (decimal (thread_named request)) (unsigned (thread_named request))
    (json.member (codes "allThreadsStopped") (json.boolean true) (json.member (codes "text") (json.string (stop_words stop)) json.no_members))
    (put (codes "reason") (string (reason_of stop)) no_members) (number_of-decimal (thread_named request) thread)))

-- the words of a refusal
refused_plain : (why : ℕ) → why < 2 ^ 64 →
    escape (codes "refused " ++ decimal why ++ codes "; there is no memory left to tell more") ≡ codes "refused " ++ decimal why ++ codes "; there is no memory left to tell more"
unfolding escape_byte
refused_plain why small =
    flat_map-append escape_byte (codes "refused " ++ decimal why) (codes "; there is no memory left to tell more")
    ∙ ap (λ (t : List ℕ). t ++ codes "; there is no memory left to tell more")
    (flat_map-append escape_byte (codes "refused ") (decimal why) ∙ ap (λ (t : List ℕ). codes "refused " ++ t) (decimal_plain why small))

refused_stop : (why thread : ℕ) (excepts : Bool) → stopped_text (Stop.Refused why excepts) thread
    ≡ stop_text (reason_of (Stop.Refused why excepts)) thread (stop_words (Stop.Refused why excepts))
refused_stop why thread excepts =
    ap
    (λ (t : List ℕ). (((codes "\",\"body\":{\"reason\":\"" ++ reason_of (Stop.Refused why excepts)) ++ codes "\",\"threadId\":") ++ decimal thread)
    ++ (codes ",\"allThreadsStopped\":true,\"text\":\"" ++ t))
    (sym (append_assoc (codes "refused " ++ decimal why) (codes "; there is no memory left to tell more") (codes "\"}}")))

plain_event : (request : Request) (told : Told) (seq : ℕ) → seq < 2 ^ 64 → escape (event_name told) ≡ event_name told → event_rest request told ≡ codes "\"}" →
    event_body request told ≡ [] → read (short_event request told seq) ≡ Some (event_object seq (event_name told) [])
unfolding print_from escape_byte
plain_event request told seq small plain text none =
    event_reads seq (event_name told) json.no_members (event_members seq (event_name told)) (event_rest request told) small plain tt (omega arith) text refl

pub short_events : ShortEvents
unfolding escape_byte
short_events request (Told.Stopped Stop.Entry) seq small thread low = stop_reads request Stop.Entry seq small thread refl refl refl
short_events request (Told.Stopped Stop.Stepped) seq small thread low = stop_reads request Stop.Stepped seq small thread refl refl refl
short_events request (Told.Stopped Stop.Pause) seq small thread low = stop_reads request Stop.Pause seq small thread refl refl refl
short_events request (Told.Stopped Stop.AtLine) seq small thread low = stop_reads request Stop.AtLine seq small thread refl refl refl
short_events request (Told.Stopped Stop.Watched) seq small thread low = stop_reads request Stop.Watched seq small thread refl refl refl
short_events request (Told.Stopped (Stop.Refused why true)) seq small thread low =
    stop_reads request (Stop.Refused why true) seq small thread refl (refused_plain why low) (refused_stop why (thread_named request) true)
short_events request (Told.Stopped (Stop.Refused why false)) seq small thread low =
    stop_reads request (Stop.Refused why false) seq small thread refl (refused_plain why low) (refused_stop why (thread_named request) false)
short_events request Told.Initialized seq small thread low = plain_event request Told.Initialized seq small refl refl refl
short_events request Told.Output seq small thread low = plain_event request Told.Output seq small refl refl refl
short_events request Told.Exited seq small thread low = plain_event request Told.Exited seq small refl refl refl
short_events request Told.Terminated seq small thread low = plain_event request Told.Terminated seq small refl refl refl
short_events request Told.Breakpoint seq small thread low = plain_event request Told.Breakpoint seq small refl refl refl
