-- The short messages are JSON.
use Rattle.std.proofs.Common.{◌≡◌, ◌+◌, ◌^◌, ◌<◌, ◌≤◌, ℕ, List, [], ◌++◌, Option, Some, sym, ap, ◌∙◌, append_assoc, append-nil, arith, codes, decimal}
use Rattle.std.specs.Prelude.{option_and_then}
use Rattle.std.specs.Option.{option_map}
use Rattle.json.specs.Token.{Token}
use Rattle.json.specs.Lex.{tokens}
use Rattle.json.specs.Json as json
use Rattle.json.specs.Print.{escape_byte, print, print_from}
use Rattle.json.specs.Tree as tree
use Rattle.json.specs.Tree.{HasNumbers, json_tokens}
use Rattle.json.proofs.Printed.Decimals.{IsNumber-decimal}
use Rattle.json.proofs.Printed.Tokens.{tokens-print}
use Rattle.json.proofs.Printed.Trees.{ArePrintable-json_tokens, value-json_tokens}
use Rattle.serde_json.specs.Data.{Data, Members, Num, no_members, number, object, put, string, unsigned}
use Rattle.serde_json.specs.Read.{max_depth, number_of, of_json, of_members, read}
use Rattle.serde_json.proofs.Numbers.{number_of-decimal}
use Rattle.dap_server.specs.Heard.{Passed, large, unread, words_for}
use Rattle.dap_server.specs.Objects.{LinesAreEvents, line_object}
use Rattle.dap_server.specs.Short.{line_end, line_key, short_line}
use Rattle.dap_messages.specs.declared.request.Unread.{Unread}

abbrev of_tokens : Option (json.Json × List Token) → Option Data
of_tokens r = option_and_then of_json (option_and_then (λ p. json.if_last p.0 p.1) r)

-- what is printed for a tree is read back
pub reads_text : (j : json.Json) (d : Data) (text : List ℕ) → text ≡ print (json_tokens j) → HasNumbers j → tree.depth j ≤ max_depth → of_json j ≡ Some d →
    read text ≡ Some d
reads_text j d text is numbers shallow of =
    let there : tokens text ≡ json_tokens j ++ [] =
    ap tokens is ∙ tokens-print (json_tokens j) (ArePrintable-json_tokens j numbers) ∙ sym (append-nil (json_tokens j)) in
    ap of_tokens (ap (json.value max_depth) there ∙ value-json_tokens j max_depth [] shallow) ∙ of

-- a number among the members
pub number_put : (k s : List ℕ) (n : Num) (ms : json.Members) (found : Members) → number_of s ≡ Some n →
    of_members (json.member k (json.number s) ms) found ≡ of_members ms (put k (number n) found)
number_put k s n ms found h = ap (λ (o : Option Num). option_and_then (λ d. of_members ms (put k d found)) (option_map number o)) h

-- the tree of a line that is told, but for its number
abbrev line_members : List ℕ → json.Members
line_members line =
    json.member (codes "type") (json.string (codes "event"))
    (json.member (codes "event") (json.string (codes "output"))
    (json.member (codes "body")
    (json.object
    (json.member (codes "category") (json.string (codes "stderr"))
    (json.member (codes "output") (json.string (codes "balsadbg: " ++ line ++ codes "\n")) json.no_members)))
    json.no_members))

abbrev line_json : List ℕ → ℕ → json.Json
line_json line seq = json.object (json.member (codes "seq") (json.number (decimal seq)) (line_members line))

join_line : (p d a b l c : List ℕ) → ((((p ++ d) ++ a) ++ b) ++ l) ++ c ≡ p ++ (d ++ (((a ++ b) ++ l) ++ c))
join_line p d a b l c = simp append_assoc

line_text : (why : Passed) (seq : ℕ) → short_line (words_for why) seq ≡ print (json_tokens (line_json (words_for why) seq))
unfolding print_from escape_byte
line_text large seq =
    join_line (codes "{\"seq\":") (decimal seq) (codes ",\"type\":\"event\",\"event\":\"") line_key (words_for large) line_end
line_text (unread Unread.Memory) seq =
    join_line (codes "{\"seq\":") (decimal seq) (codes ",\"type\":\"event\",\"event\":\"") line_key (words_for (unread Unread.Memory)) line_end
line_text (unread Unread.NoJson) seq =
    join_line (codes "{\"seq\":") (decimal seq) (codes ",\"type\":\"event\",\"event\":\"") line_key (words_for (unread Unread.NoJson)) line_end
line_text (unread Unread.NoRequest) seq =
    join_line (codes "{\"seq\":") (decimal seq) (codes ",\"type\":\"event\",\"event\":\"") line_key (words_for (unread Unread.NoRequest)) line_end

line_of : (line : List ℕ) (seq : ℕ) → seq < 2 ^ 64 → of_json (line_json line seq) ≡ Some (line_object line seq)
line_of line seq small = ap (λ (o : Option Members). option_map object o) (number_put (codes "seq") (decimal seq) (unsigned seq) (line_members line) no_members (number_of-decimal seq small))

pub lines_are_events : LinesAreEvents
lines_are_events why seq small =
    reads_text (line_json (words_for why) seq) (line_object (words_for why) seq) (short_line (words_for why) seq) (line_text why seq)
    (IsNumber-decimal seq small, (tt, (tt, ((tt, (tt, tt)), tt)))) (omega arith) (line_of (words_for why) seq small)
