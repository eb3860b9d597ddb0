-- What a client says of itself.
use Rattle.std.specs.Prelude.{ℕ, ◌≡◌, Bool, true, false, if◌then◌else◌, nat_eq, List, Option, None, Some, codes, unwrap_or}
use Rattle.std.specs.Cmp.Lexicographic.{pointwise}
use Rattle.serde_json.specs.Data.{Data}
use Rattle.dap_messages.specs.Arguments.{flag_named, text_named}
use Rattle.dap_messages.specs.Notes.{IsDone, IsRefusal}
use Rattle.dap_messages.specs.declared.answer.Answer.{Answer}
use Rattle.dap_messages.specs.declared.kind.Kind.{Kind}
use Rattle.dap_requests.specs.Sets.{filters_refused}
use Rattle.dap_views.specs.declared.program.Counting.{Counting}
use Rattle.dap.specs.declared.launch.Launched.{Launched}

-- what is to be added to numbers that start at 1, or at 0, so that they count from 1
abbrev pub base : Bool → ℕ
base starts_at_one = if starts_at_one then 0 else 1

-- how a client counts, by what it says
abbrev pub counting_of : Data → Counting
counting_of d = record {
  lines = base (unwrap_or (flag_named (codes "linesStartAt1") d) true);
  columns = base (unwrap_or (flag_named (codes "columnsStartAt1") d) true);
}

-- whether files are named by paths, as they are where it is not said how
abbrev pub is_path : Option (List ℕ) → Bool
is_path None = true
is_path (Some word) = pointwise nat_eq word (codes "path")

abbrev pub names_paths : Data → Bool
names_paths d = is_path (text_named (codes "pathFormat") d)

-- a client that names files by paths is known from then on, and counts as it says; another is refused
abbrev pub MeetsBy : Bool → Data → Answer → Option Counting → Type 0
MeetsBy true d b y = IsDone b.outcome × (y ≡ Some (counting_of d))
MeetsBy false d b y = IsRefusal b.outcome × (y ≡ None)

-- who is known stays
abbrev pub Meets : Option Counting → Data → Answer → Option Counting → Type 0
Meets None d b y = MeetsBy (names_paths d) d b y
Meets (Some c) d b y = y ≡ Some c

-- who the client is behind a request of this kind: only `initialize` tells that
abbrev pub ClientBy : Kind → Option Counting → Data → Answer → Option Counting → Type 0
ClientBy Kind.Initialize x d b y = Meets x d b y
ClientBy _ x d b y = y ≡ x

-- whether refusals stop as exceptions in what is launched later: as filters that are set before the launch say
abbrev pub excepts_by : Kind → Data → Bool → Bool
excepts_by Kind.SetExceptionBreakpoints d excepts = unwrap_or (filters_refused d) excepts
excepts_by _ d excepts = excepts

-- by a client that is known
abbrev pub excepts_early : Option Counting → Kind → Data → Bool → Bool
excepts_early None kind d excepts = excepts
excepts_early (Some c) kind d excepts = excepts_by kind d excepts

abbrev pub excepts_behind : Option Launched → Option Counting → Kind → Data → Bool → Bool
excepts_behind None client kind d excepts = excepts_early client kind d excepts
excepts_behind (Some l) client kind d excepts = excepts
