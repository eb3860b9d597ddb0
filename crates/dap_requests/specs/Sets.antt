-- What a client sets on what is launched.
use Rattle.std.specs.Prelude.{◌≡◌, ◌⊎◌, ◌||◌, ◌==◌, ℕ, Bool, true, false, cond, if◌then◌else◌, is_some, nat_eq, nat_lt, not, List, [], ◌∷◌, ◌++◌, filter, length, map, MatchOption, Option, None, Some, codes, option_and_then, string_bytes, unwrap_or}
use Rattle.std.specs.Cmp.Lexicographic.{pointwise}
use Rattle.std.specs.List.{after_first, before_first, list_any, position_or_len}
use Rattle.std.specs.Option.{option_map, option_map_or}
use Rattle.serde_json.specs.Data.{Data, Items, item, no_items}
use Rattle.serde_json.specs.Find.{as_array, as_number, as_str, as_u64}
use Rattle.system.specs.declared.command.Command.{Command}
use Rattle.dap_messages.specs.Arguments.{number_named, part_named, text_named}
use Rattle.dap_messages.specs.Notes.{IsDone, IsRefusal}
use Rattle.dap_messages.specs.declared.answer.Answer.{Answer}
use Rattle.dap_messages.specs.declared.answer.Effect.{Effect}
use Rattle.dap_messages.specs.declared.told.Told.{Told}
use Rattle.dap_views.specs.declared.watched.Watched.{Watched}
use Rattle.dap_views.specs.Counted.{at_most_all}
use Rattle.dap_views.specs.Files.{same_file}
use Rattle.dap_views.specs.Kept.{SameButLines, SameButWatched}
use Rattle.dap_views.specs.Named.{found}
use Rattle.dap_views.specs.declared.index.Index.{Index}
use Rattle.dap_views.specs.declared.index.Thing.{Thing}
use Rattle.dap_views.specs.declared.lines.Lines.{Lines}
use Rattle.dap_views.specs.declared.program.Asked.{Asked}
use Rattle.dap_views.specs.declared.program.Program.{Program}
use Rattle.dap_requests.specs.Lists.{Lists, all_shown, breakpoint_told, each, none_shown, stand_told, verified_told}
use Rattle.dap_requests.specs.Said.{Tells}
use Rattle.dap_requests.specs.Stands.{StandsOn}

-- the items of a part that is a list; none where it is not there, `None` where it is no list
abbrev pub listed : Option Data → Option Items
listed None = Some no_items
listed (Some d) = as_array d

abbrev pub items_named : List ℕ → Data → Option Items
items_named name d = listed (part_named name d)

-- all is as it was: it is refused, since what is asked for is not there as it should be, or there is no memory
abbrev pub Stays : {A : Type 0} → Option A → Program → Answer → Program → Type 0
Stays asked p b q = (q ≡ p) × (((asked ≡ None) × IsRefusal b.outcome) ⊎ (b.lacks ≡ true))

-- whether this is the filter of refusals
abbrev pub is_refused : Option (List ℕ) → Bool
is_refused None = false
is_refused (Some word) = pointwise nat_eq word (codes "refused")

-- whether it is among these
abbrev pub has_refused : Items → Bool
has_refused no_items = false
has_refused (item d ds) = is_refused (as_str d) || has_refused ds

-- whether refusals are among the filters that are asked for; `None` where these are no list
abbrev pub filters_refused : Data → Option Bool
filters_refused d = option_map has_refused (items_named (codes "filters") d)

-- refusals stop where they are among the filters; as before where these are no list
abbrev pub SetsExcepts : Data → Program → Program → Type 0
SetsExcepts d p q = q ≡ record p { excepts = unwrap_or (filters_refused d) p.excepts }

-- it is refused where the filters are no list; else it is done, which stays however little memory there is
abbrev pub AnswersFilters : Option Bool → Answer → Answer → Type 0
AnswersFilters asked a b =
    MatchOption asked (IsRefusal b.outcome)
    (λ excepts. (IsDone a.outcome → IsDone b.outcome) × (b.effect ≡ Effect.Done) × (b.lacks ≡ a.lacks))

-- what is watched by a word for its kind, if it means this
abbrev pub watched_as : List ℕ → Option Thing → Option Watched
watched_as kind None = None
watched_as kind (Some (Thing.Variable n)) = if pointwise nat_eq kind (codes "var") then Some (Watched.Variable n) else None
watched_as kind (Some (Thing.Channel n)) = if pointwise nat_eq kind (codes "chan") then Some (Watched.Channel n) else None

-- what is watched by an id: `var NAME` a variable, `chan NAME` a channel, where the root means that by the name
abbrev pub watched_by : Index → List ℕ → Option Watched
watched_by index id =
    if nat_lt (position_or_len (λ b. b == 32) id) (length id)
    then watched_as (before_first (λ b. b == 32) id) (found index 0 (after_first (λ b. b == 32) id))
    else None

-- the id that an item has
abbrev pub id_in : Data → List ℕ
id_in d = unwrap_or (text_named (codes "dataId") d) []

-- one more before these, where it means something
abbrev pub watched_before : Option Watched → List Watched → List Watched
watched_before None ws = ws
watched_before (Some w) ws = w ∷ ws

-- before a launch none of these is watched, and so the response tells of each, in order; or it is refused, since they
-- are no list
abbrev pub TellsNoData : Option Items → Answer → Type 0
TellsNoData None b = IsRefusal b.outcome
TellsNoData (Some items) b = Lists verified_told (each (λ d. Some false) items) b

-- what is watched by these items, in order; those that mean nothing are left out
abbrev pub all_watched : Index → Items → List Watched
all_watched index no_items = []
all_watched index (item d ds) = watched_before (watched_by index (id_in d)) (all_watched index ds)

-- whether each of them means something, in order
abbrev pub all_verified : Index → Items → List (Option Bool)
all_verified index no_items = []
all_verified index (item d ds) = Some (is_some (watched_by index (id_in d))) ∷ all_verified index ds

-- what these items mean is watched, and nothing else
abbrev pub WatchesOnly : Items → Program → Program → Type 0
WatchesOnly items p q = (q.watched.items ≡ all_watched p.index items) × SameButWatched p q

-- what the items mean is watched, and of each the response tells whether it is; or all is as it was
abbrev pub SetsWatched : Data → Program → Answer → Program → Type 0
SetsWatched d p b q =
    Stays (items_named (codes "breakpoints") d) p b q
    ⊎ ((items : Items) × (items_named (codes "breakpoints") d ≡ Some items) × WatchesOnly items p q
    × Lists verified_told (all_verified p.index items) b)

-- whether a request names bare lines, and no breakpoints
abbrev pub is_bare : Data → Bool
is_bare d = not (is_some (part_named (codes "breakpoints") d))

-- what its list is called
abbrev pub list_name : Bool → List ℕ
list_name true = codes "lines"
list_name false = codes "breakpoints"

-- the line of an item
abbrev pub line_of : Bool → Data → Option ℕ
line_of true d = option_and_then as_u64 (as_number d)
line_of false d = number_named (codes "line") d

-- the lines of all items, in order; `None` where one has none
abbrev pub lines_of : Bool → Items → Option (List ℕ)
lines_of bare no_items = Some []
lines_of bare (item d ds) =
    option_and_then (λ line. option_map (λ lines. line ∷ lines) (lines_of bare ds)) (line_of bare d)

-- the lines that are asked for, as the client counts; `None` where they are not there as they should be
abbrev pub lines_asked : Data → Option (List ℕ)
lines_asked d = option_and_then (lines_of (is_bare d)) (items_named (list_name (is_bare d)) d)

-- breakpoints on these lines of a client that counts so much less, numbered on from `id`; it is not known yet where they
-- stand
abbrev pub asked_on : ℕ → ℕ → List ℕ → List Asked
asked_on less id [] = []
asked_on less id (line ∷ lines) =
    record { id = at_most_all id 1; line = at_most_all line less; at = None } ∷ asked_on less (at_most_all id 1) lines

-- where a breakpoint stands, where these lines stop already; on none where it is of a file that is not debugged
abbrev pub StandsIn : Bool → Command → Lines → List ℕ → ℕ → Option ℕ → Type 0
StandsIn true c lines stops line at = StandsOn c lines stops line at
StandsIn false c lines stops line at = at ≡ None

-- whether it stands on this line
abbrev pub stands_on : ℕ → Option ℕ → Bool
stands_on line None = false
stands_on line (Some at) = at == line

-- the lines that stop, once one more breakpoint stands there: each is among them once
abbrev pub with_stop : List ℕ → Option ℕ → List ℕ
with_stop stops None = stops
with_stop stops (Some line) = if list_any (λ y. y == line) stops then stops else stops ++ line ∷ []

-- each of the breakpoints stands where it should, one after another, where these lines stop already: so they are
-- placed, and all these lines stop
abbrev pub ArePlaced : Bool → Command → Lines → List ℕ → List Asked → List Asked → List ℕ → Type 0
ArePlaced own c lines stops [] [] all = all ≡ stops
ArePlaced own c lines stops (a ∷ asked) (b ∷ placed) all =
    (b ≡ record a { at = b.at }) × StandsIn own c lines stops a.line b.at
    × ArePlaced own c lines (with_stop stops b.at) asked placed all
ArePlaced own c lines stops _ _ all = ⊥

-- the breakpoints are those on these lines, and no others
pub record PlacesAnew (own : Bool) (c : Command) (lines : List ℕ) (p q : Program) : Type 0 where
  pub placed : ArePlaced own c p.lines [] (asked_on p.counting.lines p.last_id lines) q.asked.items q.stops.items
  pub last : q.last_id ≡ at_most_all p.last_id (length lines)
  pub elsewhere : q.elsewhere ≡ cond own None p.elsewhere
  pub same : SameButLines p q

-- the breakpoints that are asked for are set, and the response tells each, in order, and no others; or all is as it was
abbrev pub PlacesAsked : Bool → Command → Data → Program → Answer → Program → Type 0
PlacesAsked own c d p b q =
    Stays (lines_asked d) p b q
    ⊎ ((lines : List ℕ) × (lines_asked d ≡ Some lines) × PlacesAnew own c lines p q
    × Lists breakpoint_told (all_shown p.counting.lines q.asked.items) b)

-- none of the lines that are asked for has a breakpoint, and so the response tells of each, in order; or it is refused,
-- since they are not there as they should be, or there is no memory
abbrev pub TellsNone : Data → Answer → Type 0
TellsNone d b =
    (((lines_asked d ≡ None) × IsRefusal b.outcome) ⊎ (b.lacks ≡ true))
    ⊎ ((lines : List ℕ) × (lines_asked d ≡ Some lines) × Lists stand_told (none_shown lines) b)

-- the path of the source that is named; nothing where none is
abbrev pub path_in : Data → List ℕ
path_in d = unwrap_or (option_and_then (text_named (codes "path")) (part_named (codes "source") d)) []

-- whether a client means by it the file that is debugged
abbrev pub is_own : Program → List ℕ → Bool
is_own p path = same_file (string_bytes p.launch.program) path

-- or the one for which the breakpoints were set, where another is debugged now
abbrev pub is_elsewhere : Program → List ℕ → Bool
is_elsewhere p path = option_map_or (λ file. same_file (string_bytes file) path) p.elsewhere false

-- whether breakpoints are set in the file of this path
abbrev pub is_meant : Program → List ℕ → Bool
is_meant p path = is_own p path || is_elsewhere p path

-- those that are asked for are set in this file, if they are in it; else all is as it was, and so it is told
abbrev pub SetsIn : List ℕ → Command → Data → Program → Answer → Program → Type 0
SetsIn path c d p b q =
    ((is_meant p path ≡ false) × (q ≡ p) × TellsNone d b)
    ⊎ ((is_meant p path ≡ true) × PlacesAsked (is_own p path) c d p b q)

-- in the file that is named
abbrev pub SetsLines : Command → Data → Program → Answer → Program → Type 0
SetsLines c d p b q = SetsIn (path_in d) c d p b q

-- whether a breakpoint stands on another line than it was asked for, or on none
abbrev pub is_moved : Asked → Bool
is_moved a = not (stands_on a.line a.at)

-- a text for each of these; or that a breakpoint has changed
abbrev pub texts_of : {A : Type 0} → List A → List Told
texts_of xs = map (λ x. Told.Output) xs

abbrev pub changes_of : {A : Type 0} → List A → List Told
changes_of xs = map (λ x. Told.Breakpoint) xs

-- a text is told for each that does
abbrev pub moves_told : List Asked → List Told
moves_told asked = texts_of (filter is_moved asked)

-- which events are told where breakpoints are set that are meant, and on these lines: these texts; none, where they are
-- not, or no lines are asked for
abbrev pub TellsSet : Bool → Option (List ℕ) → Answer → Program → Answer → Type 0
TellsSet true (Some lines) a q b = Tells a (moves_told q.asked.items) b
TellsSet _ _ a q b = b.notes ≡ a.notes

-- so it is in the file that is named, where p was set before
abbrev pub TellsLines : Data → Program → Answer → Program → Answer → Type 0
TellsLines d p a q b = TellsSet (is_meant p (path_in d)) (lines_asked d) a q b

-- the file for which the breakpoints were set
abbrev pub file_of : Program → List ℕ
file_of p = option_map_or (λ file. string_bytes file) p.elsewhere (string_bytes p.launch.program)

-- whether that is the one that is debugged where another was launched
abbrev pub is_again : Program → Program → Bool
is_again before p = same_file (file_of before) (string_bytes p.launch.program)
