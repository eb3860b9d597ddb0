-- Short responses and events are JSON.
use Rattle.std.proofs.Common.{◌≡◌, ◌+◌, ◌%◌, ◌^◌, ◌<◌, ◌≤◌, ◌&&◌, ℕ, Bool, true, false, cond, List, [], ◌∷◌, ◌++◌, length, Option, Some, nat_lt, inl, inr, refl, sym, ap, ap₂, ◌∙◌, subst, append_assoc, arith, mod-lt, zero-lt-suc, codes, decimal, string_bytes}
use Rattle.std.specs.Prelude.{option_and_then}
use Rattle.std.specs.Option.{option_map}
use Rattle.std.specs.Char.{is_ascii_alphanumeric}
use Rattle.std.specs.Int.{is_in_range}
use Rattle.std.proofs.lemmas.Bool.{and_parts, leb-true, or_cases, true≢false}
use Rattle.std.proofs.lemmas.Fmt.{decimal_by_steps, decimal_digit}
use Rattle.std.proofs.lemmas.List.Concat.{flat_map-append}
use Rattle.json.specs.Json as json
use Rattle.json.specs.Print.{IsNumber, escape, escape_byte, print, print_from}
use Rattle.json.specs.Tree as tree
use Rattle.json.specs.Tree.{json_tokens, members_tokens}
use Rattle.json.proofs.Printed.Decimals.{IsNumber-decimal}
use Rattle.json.proofs.Printed.Strings.{escape_byte_plain}
use Rattle.serde_json.specs.Data.{Data, Members, boolean, no_members, number, object, put, string, unsigned}
use Rattle.serde_json.specs.Read.{number_of, of_json, of_members, read}
use Rattle.serde_json.proofs.Numbers.{number_of-decimal}
use Rattle.dap_messages.specs.Arguments.{is_single}
use Rattle.dap_messages.specs.declared.kind.Kind.{Kind}
use Rattle.dap_messages.specs.declared.request.Request.{Request}
use Rattle.dap_server.specs.Objects.{ShortResponses, refused_object, response_object, success_body}
use Rattle.dap_server.specs.Short.{command_key, is_plain, needs_more, refusal_text, response_head, short_name, success_text}
use Rattle.dap_server.specs.declared.gist.Gist.{Gist}
use Rattle.dap_server.proofs.Printing.{number_put, reads_text}

-- digits need no escape
digit_plain : (n : ℕ) → n < 10 → escape ((48 + n) ∷ []) ≡ (48 + n) ∷ []
digit_plain n small = ap (λ (t : List ℕ). t ++ []) (escape_byte_plain (48 + n) (λ e. omega arith) (λ e. omega arith) (omega arith))

more_plain : (n : ℕ) (ds : List ℕ) → 10 ≤ n → escape ds ≡ ds → escape (ds ++ ((48 + n % 10) ∷ [])) ≡ ds ++ ((48 + n % 10) ∷ [])
more_plain n ds low h =
    flat_map-append escape_byte ds ((48 + n % 10) ∷ []) ∙ ap₂ (λ (x y : List ℕ). x ++ y) h (digit_plain (n % 10) (mod-lt n (zero-lt-suc 9)))

pub decimal_plain : (n : ℕ) → n < 2 ^ 64 → escape (decimal n) ≡ decimal n
decimal_plain = decimal_by_steps (λ n ds. escape ds ≡ ds) digit_plain more_plain

-- so do letters and digits
in_range_low : (low high x : ℕ) → is_in_range low high x ≡ true → low ≤ x
in_range_low low high x h = leb-true low x (and_parts _ _ h).0

alphanumeric_low : (x : ℕ) → is_ascii_alphanumeric x ≡ true → 48 ≤ x
alphanumeric_low x h = elim (or_cases _ _ h) [
  | inl one ↦ elim (or_cases _ _ one) [
    | inl digit ↦ in_range_low 48 57 x digit
    | inr upper ↦ let low = in_range_low 65 90 x upper in omega arith
  ]
  | inr lower ↦ let low = in_range_low 97 122 x lower in omega arith
]

byte_plain : (x : ℕ) → is_ascii_alphanumeric x ≡ true → escape_byte x ≡ x ∷ []
byte_plain x h =
    let low = alphanumeric_low x h in
    escape_byte_plain x (λ e. omega arith) (λ e. true≢false (sym h ∙ ap is_ascii_alphanumeric e)) (omega arith)

name_plain : (xs : List ℕ) → is_plain xs ≡ true → escape xs ≡ xs
name_plain [] h = refl
name_plain (x ∷ xs) h =
    let both = and_parts _ _ h in ap₂ (λ (a b : List ℕ). a ++ b) (byte_plain x both.0) (name_plain xs both.1)

either_plain : (p q : Bool) (name : List ℕ) → q ≡ is_plain name → escape (cond (p && q) name (codes "unknown")) ≡ cond (p && q) name (codes "unknown")
unfolding escape_byte
either_plain true true name is = name_plain name (sym is)
either_plain true false name is = refl
either_plain false q name is = refl

short_plain : (name : List ℕ) → escape (short_name name) ≡ short_name name
short_plain name = either_plain (nat_lt (length name) 64) (is_plain name) name refl

-- the tree of a response, but for its number, with what stands in it behind the name
abbrev typed_members : ℕ → List ℕ → json.Members → json.Members
typed_members r name rest =
    json.member (codes "type") (json.string (codes "response"))
    (json.member (codes "request_seq") (json.number (decimal r)) (json.member (codes "command") (json.string name) rest))

abbrev response_json : ℕ → ℕ → List ℕ → json.Members → json.Json
response_json r s name rest = json.object (json.member (codes "seq") (json.number (decimal s)) (typed_members r name rest))

-- what is printed of that behind the name
abbrev pub printed : json.Members → List ℕ
printed rest = print_from true (members_tokens rest)

join_response : (p d q e k n z : List ℕ) → (((p ++ d) ++ (q ++ e)) ++ k) ++ n ++ 34 ∷ z ≡ p ++ (d ++ (q ++ (e ++ (k ++ ((n ++ 34 ∷ []) ++ z)))))
join_response p d q e k n z = simp append_assoc

response_text : (r s : ℕ) (name : List ℕ) (rest : json.Members) → escape name ≡ name →
    ((response_head r s ++ command_key) ++ name) ++ 34 ∷ printed rest ≡ print (json_tokens (response_json r s name rest))
unfolding print_from escape_byte
response_text r s name rest plain =
    join_response (codes "{\"seq\":") (decimal s) (codes ",\"type\":\"response\",\"request_seq\":") (decimal r) command_key name (printed rest)
    ∙ ap
    (λ (n : List ℕ). codes "{\"seq\":" ++ (decimal s ++ (codes ",\"type\":\"response\",\"request_seq\":"
    ++ (decimal r ++ (command_key ++ ((n ++ 34 ∷ []) ++ printed rest)))))) (sym plain)

-- the members that it has then
abbrev response_members : ℕ → ℕ → List ℕ → Members
response_members r s name =
    put (codes "command") (string name) (put (codes "request_seq") (number (unsigned r))
    (put (codes "type") (string (codes "response")) (put (codes "seq") (number (unsigned s)) no_members)))

response_of : (r s : ℕ) (name : List ℕ) (rest : json.Members) (found : Members) → r < 2 ^ 64 → s < 2 ^ 64 →
    of_members rest (response_members r s name) ≡ Some found → of_json (response_json r s name rest) ≡ Some (object found)
response_of r s name rest found small smaller h =
    ap (λ (o : Option Members). option_map object o)
    (number_put (codes "seq") (decimal s) (unsigned s) (typed_members r name rest) no_members (number_of-decimal s smaller)
    ∙ number_put (codes "request_seq") (decimal r) (unsigned r) (json.member (codes "command") (json.string name) rest)
    (put (codes "type") (string (codes "response")) (put (codes "seq") (number (unsigned s)) no_members)) (number_of-decimal r small) ∙ h)

-- a response is read, where what stands behind the name is
response_reads : (r s : ℕ) (name : List ℕ) (rest : json.Members) (found : Members) (text : List ℕ) → r < 2 ^ 64 → s < 2 ^ 64 → escape name ≡ name →
    tree.MembersHaveNumbers rest → tree.members_depth rest ≤ 2 → text ≡ 34 ∷ printed rest → of_members rest (response_members r s name) ≡ Some found →
    read (((response_head r s ++ command_key) ++ name) ++ text) ≡ Some (object found)
response_reads r s name rest found text small smaller plain numbers shallow is h =
    reads_text (response_json r s name rest) (object found) (((response_head r s ++ command_key) ++ name) ++ text)
    (ap (λ (t : List ℕ). ((response_head r s ++ command_key) ++ name) ++ t) is ∙ response_text r s name rest plain)
    (IsNumber-decimal s smaller, (tt, (IsNumber-decimal r small, (tt, numbers)))) (omega arith) (response_of r s name rest found small smaller h)

-- ---- refusals

abbrev refused_json : ℕ → List ℕ → json.Members
refused_json why words =
    json.member (codes "success") (json.boolean false)
    (json.member (codes "message") (json.string (codes "refused " ++ decimal why ++ codes ": " ++ words))
    (json.member (codes "body")
    (json.object
    (json.member (codes "error")
    (json.object
    (json.member (codes "id") (json.number (decimal why))
    (json.member (codes "format") (json.string words) (json.member (codes "showUser") (json.boolean true) json.no_members))))
    json.no_members))
    json.no_members))

-- what is told is as it stands
said_plain : (why : ℕ) (words : List ℕ) → why < 2 ^ 64 → escape words ≡ words →
    escape (codes "refused " ++ decimal why ++ codes ": " ++ words) ≡ codes "refused " ++ decimal why ++ codes ": " ++ words
unfolding escape_byte
said_plain why words small plain =
    flat_map-append escape_byte (codes "refused " ++ decimal why ++ codes ": ") words
    ∙ ap₂ (λ (x y : List ℕ). x ++ y)
    (flat_map-append escape_byte (codes "refused " ++ decimal why) (codes ": ")
    ∙ ap (λ (t : List ℕ). t ++ codes ": ")
    (flat_map-append escape_byte (codes "refused ") (decimal why) ∙ ap (λ (t : List ℕ). codes "refused " ++ t) (decimal_plain why small)))
    plain

join_refusal : (a d b w x c f g : List ℕ) →
    (((a ++ d) ++ b) ++ w) ++ ((((x ++ d) ++ f) ++ w) ++ g) ≡ (((a ++ d) ++ b) ++ w) ++ (x ++ (d ++ (f ++ (w ++ g))))
join_refusal a d b w x c f g = simp append_assoc

join_message : (s m d b w z : List ℕ) → (((s ++ m) ++ d) ++ b) ++ w ++ 34 ∷ z ≡ s ++ (((((m ++ d) ++ b) ++ w) ++ 34 ∷ []) ++ z)
join_message s m d b w z = simp append_assoc

join_format : (x d f w z : List ℕ) → (((x ++ d) ++ f) ++ w) ++ 34 ∷ z ≡ x ++ (d ++ (f ++ ((w ++ 34 ∷ []) ++ z)))
join_format x d f w z = simp append_assoc

refused_text : (why : ℕ) (words : List ℕ) → why < 2 ^ 64 → escape words ≡ words → refusal_text why words ≡ 34 ∷ printed (refused_json why words)
unfolding print_from escape_byte
refused_text why words small plain =
    let said : List ℕ = codes "refused " ++ decimal why ++ codes ": " ++ words in
    let close : List ℕ = codes ",\"showUser\":true}}}" in
    let error : List ℕ → List ℕ = λ w. codes ",\"body\":{\"error\":{\"id\":" ++ (decimal why ++ (codes ",\"format\":\"" ++ ((w ++ 34 ∷ []) ++ close))) in
    let start : List ℕ = codes "\",\"success\":false,\"message\":\"" in
    ap (λ (t : List ℕ). (codes "\",\"success\":false,\"message\":\"refused " ++ decimal why ++ codes ": " ++ words) ++ t)
    (join_format (codes "\",\"body\":{\"error\":{\"id\":") (decimal why) (codes ",\"format\":\"") words close)
    ∙ join_message start (codes "refused ") (decimal why) (codes ": ") words (error words)
    ∙ ap₂ (λ (t w : List ℕ). start ++ ((t ++ 34 ∷ []) ++ error w)) (sym (said_plain why words small plain)) (sym plain)

-- the members of the error
error_of : (why : ℕ) (words : List ℕ) (found : Members) → why < 2 ^ 64 →
    of_members (refused_json why words) found
    ≡ Some
    (put (codes "body") (object (put (codes "error") (object
    (put (codes "showUser") (boolean true) (put (codes "format") (string words) (put (codes "id") (number (unsigned why)) no_members))))
    no_members))
    (put (codes "message") (string (codes "refused " ++ decimal why ++ codes ": " ++ words)) (put (codes "success") (boolean false) found)))
error_of why words found small =
    ap
    (λ (o : Option Members). option_and_then
    (λ (d : Data). Some (put (codes "body") d
    (put (codes "message") (string (codes "refused " ++ decimal why ++ codes ": " ++ words)) (put (codes "success") (boolean false) found))))
    (option_map object (option_and_then (λ (d : Data). Some (put (codes "error") d no_members)) (option_map object o))))
    (number_put (codes "id") (decimal why) (unsigned why)
    (json.member (codes "format") (json.string words) (json.member (codes "showUser") (json.boolean true) json.no_members)) no_members
    (number_of-decimal why small))

refused_reads : (request : Request) (seq why : ℕ) (words : List ℕ) → seq < 2 ^ 64 → request.seq < 2 ^ 64 → why < 2 ^ 64 → escape words ≡ words →
    read (((response_head request.seq seq ++ command_key) ++ short_name (string_bytes request.command)) ++ refusal_text why words)
    ≡ Some (refused_object request seq why words)
refused_reads request seq why words smaller small low plain =
    response_reads request.seq seq (short_name (string_bytes request.command)) (refused_json why words) _ (refusal_text why words) small smaller
    (short_plain (string_bytes request.command)) (tt, (tt, (((IsNumber-decimal why low, (tt, (tt, tt))), tt), tt))) (omega arith)
    (refused_text why words low plain) (error_of why words (response_members request.seq seq (short_name (string_bytes request.command))) low)

-- ---- responses to what is done

-- the digit
nought : number_of (codes "0") ≡ Some (unsigned 0)
nought = subst (λ (t : List ℕ). number_of t ≡ Some (unsigned 0)) (decimal_digit 0 (omega arith)) (number_of-decimal 0 (omega arith))

nought_is : IsNumber (codes "0")
nought_is = subst (λ (t : List ℕ). IsNumber t) (decimal_digit 0 (omega arith)) (IsNumber-decimal 0 (omega arith))

-- that it is done, and nothing else
abbrev done_json : json.Members
done_json = json.member (codes "success") (json.boolean true) json.no_members

-- and a body
abbrev done_with : json.Members → json.Members
done_with body = json.member (codes "success") (json.boolean true) (json.member (codes "body") (json.object body) json.no_members)

abbrev going_json : Bool → json.Members
going_json all = json.member (codes "allThreadsContinued") (json.boolean all) json.no_members

abbrev evaluated_json : json.Members
evaluated_json =
    json.member (codes "result") (json.string (codes "done; there is no memory left to tell more"))
    (json.member (codes "variablesReference") (json.number (codes "0")) json.no_members)

-- the text of a response to what is done
abbrev DoneReads : Request → ℕ → Kind → Bool → Type 0
DoneReads request seq kind single =
    read (((response_head request.seq seq ++ command_key) ++ short_name (string_bytes request.command)) ++ success_text kind single)
    ≡ Some (response_object request seq true (success_body kind single))

plain_done : (request : Request) (seq : ℕ) → seq < 2 ^ 64 → request.seq < 2 ^ 64 →
    read (((response_head request.seq seq ++ command_key) ++ short_name (string_bytes request.command)) ++ codes "\",\"success\":true}")
    ≡ Some (response_object request seq true [])
unfolding print_from escape_byte
plain_done request seq smaller small =
    response_reads request.seq seq (short_name (string_bytes request.command)) done_json
    (put (codes "success") (boolean true) (response_members request.seq seq (short_name (string_bytes request.command))))
    (codes "\",\"success\":true}") small smaller (short_plain (string_bytes request.command)) (tt, tt) (omega arith) refl refl

evaluated : (request : Request) (seq : ℕ) (single : Bool) → seq < 2 ^ 64 → request.seq < 2 ^ 64 → DoneReads request seq Kind.Evaluate single
unfolding print_from escape_byte
evaluated request seq single smaller small =
    response_reads request.seq seq (short_name (string_bytes request.command)) (done_with evaluated_json) _ (success_text Kind.Evaluate single)
    small smaller (short_plain (string_bytes request.command)) (tt, ((tt, (nought_is, tt)), tt)) (omega arith) refl
    (ap
    (λ (o : Option Members). option_and_then
    (λ (d : Data). Some (put (codes "body") d (put (codes "success") (boolean true) (response_members request.seq seq (short_name (string_bytes request.command))))))
    (option_map object o))
    (number_put (codes "variablesReference") (codes "0") (unsigned 0) json.no_members
    (put (codes "result") (string (codes "done; there is no memory left to tell more")) no_members) nought))

going : (request : Request) (seq : ℕ) (single : Bool) → seq < 2 ^ 64 → request.seq < 2 ^ 64 → DoneReads request seq Kind.Continue single
unfolding print_from escape_byte
going request seq true smaller small =
    response_reads request.seq seq (short_name (string_bytes request.command)) (done_with (going_json false)) _ (success_text Kind.Continue true)
    small smaller (short_plain (string_bytes request.command)) (tt, ((tt, tt), tt)) (omega arith) refl refl
going request seq false smaller small =
    response_reads request.seq seq (short_name (string_bytes request.command)) (done_with (going_json true)) _ (success_text Kind.Continue false)
    small smaller (short_plain (string_bytes request.command)) (tt, ((tt, tt), tt)) (omega arith) refl refl

done_reads : (request : Request) (seq : ℕ) (kind : Kind) (single : Bool) → seq < 2 ^ 64 → request.seq < 2 ^ 64 → DoneReads request seq kind single
done_reads request seq Kind.Continue single smaller small = going request seq single smaller small
done_reads request seq Kind.Evaluate single smaller small = evaluated request seq single smaller small
done_reads request seq _ single smaller small = plain_done request seq smaller small

-- what is done, which may need more than there is memory for
abbrev DoneOr : Request → ℕ → Bool → Type 0
DoneOr request seq more =
    read
    (((response_head request.seq seq ++ command_key) ++ short_name (string_bytes request.command))
    ++ cond more (refusal_text 1 (codes "it is done, and there is no memory left to tell more")) (success_text request.kind (is_single request)))
    ≡ Some
    (cond more (refused_object request seq 1 (codes "it is done, and there is no memory left to tell more"))
    (response_object request seq true (success_body request.kind (is_single request))))

done_or : (request : Request) (seq : ℕ) (more : Bool) → seq < 2 ^ 64 → request.seq < 2 ^ 64 → DoneOr request seq more
unfolding escape_byte
done_or request seq true smaller small =
    refused_reads request seq 1 (codes "it is done, and there is no memory left to tell more") smaller small (omega arith) refl
done_or request seq false smaller small = done_reads request seq request.kind (is_single request) smaller small

pub short_responses : ShortResponses
unfolding escape_byte
short_responses request (Gist.Refused why) seq smaller small low =
    refused_reads request seq why (codes "there is no memory left to say why") smaller small low refl
short_responses request Gist.Untold seq smaller small low =
    refused_reads request seq 1 (codes "there is no memory left") smaller small (omega arith) refl
short_responses request Gist.Done seq smaller small low = done_or request seq (needs_more request.kind) smaller small
short_responses request (Gist.Due told) seq smaller small low = done_or request seq (needs_more request.kind) smaller small
