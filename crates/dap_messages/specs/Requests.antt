-- Which request a message is.
use Rattle.std.specs.Prelude.{◌≡◌, ◌⊎◌, ◌≤◌, ◌<◌, ℕ, Bool, true, false, List, Option, None, Some, Result, Ok, Err, IsUtf8, codes, nat_eq, string_bytes, unwrap_or}
use Rattle.std.specs.Cmp.Lexicographic.{pointwise}
use Rattle.serde_json.specs.Data.{Data, depth, null}
use Rattle.serde_json.specs.Find.{get}
use Rattle.serde_json.specs.Read.{read}
use Rattle.serde_json.specs.View.{view}
use Rattle.dap_messages.specs.Arguments.{number_named, text_named}
use Rattle.dap_messages.specs.Kinds.{kind_named}
use Rattle.dap_messages.specs.declared.request.Request.{Request}
use Rattle.dap_messages.specs.declared.request.Unread.{Unread}
use Rattle.dap_messages.specs.declared.request.TheConstants.{MOST_DEPTH}

-- whether this is the type of a request
abbrev pub is_request_type : Option (List ℕ) → Bool
is_request_type None = false
is_request_type (Some word) = pointwise nat_eq word (codes "request")

-- it is a request with this number and this name
pub record HasHead (d : Data) (number : ℕ) (name : List ℕ) : Type 0 where
  pub type : is_request_type (text_named (codes "type") d) ≡ true
  pub seq : number_named (codes "seq") d ≡ Some number
  pub command : text_named (codes "command") d ≡ Some name

-- it is no request
abbrev pub HasNoHead : Data → Type 0
HasNoHead d = (number : ℕ) (name : List ℕ) → HasHead d number name → ⊥

-- what its arguments are, `null` where it has none
abbrev pub arguments_in : Data → Data
arguments_in d = unwrap_or (get (codes "arguments") d) null

-- this is the request: its number and its name, what that asks for, and its arguments
pub record IsRequest (d : Data) (request : Request) : Type 0 where
  pub head : HasHead d request.seq (string_bytes request.command)
  pub kind : request.kind ≡ kind_named (string_bytes request.command)
  pub arguments : view request.arguments ≡ arguments_in d

-- what JSON is read as that nests no deeper than a request may
abbrev pub IsOf : Data → Result Request Unread → Type 0
IsOf d (Ok request) = IsRequest d request
IsOf d (Err Unread.NoRequest) = HasNoHead d
IsOf d (Err Unread.NoJson) = ⊥
IsOf d (Err Unread.Memory) = Unit {0}

-- the bytes are no JSON, or nest deeper than a request may
abbrev pub IsNoJson : List ℕ → Type 0
IsNoJson bytes = (d : Data) → IsUtf8 bytes → read bytes ≡ Some d → MOST_DEPTH < depth d

-- what the bytes are read as
abbrev pub IsReadAs : List ℕ → Result Request Unread → Type 0
IsReadAs bytes found =
    ((d : Data) × (read bytes ≡ Some d) × (depth d ≤ MOST_DEPTH) × IsOf d found)
    ⊎ (IsNoJson bytes × (found ≡ Err Unread.NoJson)) ⊎ (found ≡ Err Unread.Memory)
