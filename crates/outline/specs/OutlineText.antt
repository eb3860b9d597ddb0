-- The text of an outline, line by line.
use Rattle.std.specs.Prelude.{◌==◌, ℕ, ◌+◌, List, [], ◌∷◌, ◌++◌, Bool, true, false, Option, None, Some, codes, cond, length, slice_get}
use Rattle.std.specs.Fmt.{decimal}
use Rattle.std.specs.List.{flat_map}
use Rattle.std.specs.declared.cmp.Ordering.{Ordering}
use Rattle.std.specs.declared.cmp.Ordering.TheVariants.{Less, Equal, Greater}
use Rattle.address.specs.Order.{order_of}
use Rattle.address.specs.Text.{text_of}
use Rattle.address.specs.declared.Entry.{Entry}
use Rattle.system.specs.declared.system.ChannelKind.{ChannelKind}
use Rattle.system.specs.declared.system.ChannelKind.TheVariants.{Data, Sync}
use Rattle.described.specs.declared.Described.{Described}
use Rattle.described.specs.declared.call.CallEntry.{CallEntry}
use Rattle.described.specs.declared.enumeration.Enumeration.{Enumeration}
use Rattle.outline.specs.declared.branches.BranchEntry.{BranchEntry}
use Rattle.outline.specs.declared.branches.Part.{Part}
use Rattle.outline.specs.declared.branches.Part.TheVariants.{Body, Port}
use Rattle.outline.specs.declared.ends.End.{End}
use Rattle.outline.specs.declared.ends.Way.{Way}
use Rattle.outline.specs.declared.ends.Way.TheVariants.{Sends, Receives, Syncs, Opens}
use Rattle.outline.specs.declared.names.ChannelEntry.{ChannelEntry}
use Rattle.outline.specs.declared.names.VariableEntry.{VariableEntry}
use Rattle.outline.specs.declared.outline.Outline.{Outline}

-- ---- pieces

-- the end of a line
abbrev pub ending : List ℕ
ending = 10 ∷ []

-- a word, and how many there are
abbrev pub count_line : List ℕ → ℕ → List ℕ
count_line word n = word ++ codes " " ++ decimal n ++ ending

-- a line of the source, if it is known
abbrev pub on_line : Option ℕ → List ℕ
on_line None = []
on_line (Some line) = codes " line " ++ decimal line

-- how an end uses its channel
abbrev pub way_text : Way → List ℕ
way_text Sends = codes "sends"
way_text Receives = codes "receives"
way_text Syncs = codes "syncs"
way_text (Opens k) = codes "opens arm " ++ decimal k

-- the name of a channel, `?` where there is none
abbrev pub name_text : Option ChannelEntry → List ℕ
name_text None = codes "?"
name_text (Some c) = c.name

-- ---- branches

abbrev pub end_line : List ChannelEntry → End → List ℕ
end_line channels e =
    codes "    " ++ way_text e.way ++ codes " " ++ name_text (slice_get channels e.channel) ++ on_line e.line ++ ending

-- where a branch stands in the source
abbrev pub part_text : Part → List ℕ
part_text (Body line) = codes " line " ++ decimal line
part_text Port = codes " environment"

-- a call that stands at the place of a branch
abbrev pub called_if : Ordering → List ℕ → List ℕ
called_if Less name = []
called_if Equal name = codes ", " ++ name
called_if Greater name = []

abbrev pub called_at : List Entry → CallEntry → List ℕ
called_at a c = called_if (order_of a c.place) c.name

-- a branch: its number, its place, the calls that it is, and the ends that it uses
abbrev pub branch_head : List CallEntry → BranchEntry → List ℕ
branch_head calls b =
    codes "  " ++ decimal b.number ++ codes " " ++ text_of b.place ++ part_text b.part
    ++ flat_map (called_at b.place) calls ++ ending

abbrev pub branch_lines : List ChannelEntry → List CallEntry → BranchEntry → List ℕ
branch_lines channels calls b = branch_head calls b ++ flat_map (end_line channels) b.ends

-- ---- calls

abbrev pub call_line : CallEntry → List ℕ
call_line c = codes "  " ++ c.name ++ codes " " ++ text_of c.place ++ codes " line " ++ decimal c.line ++ ending

-- how many are left out, if there are some
abbrev pub left_out_line : ℕ → List ℕ
left_out_line n = codes "  and " ++ decimal n ++ codes " more, each in 64 others or more" ++ ending

abbrev pub deeper_line : ℕ → List ℕ
deeper_line n = cond (n == 0) [] (left_out_line n)

-- ---- variables

abbrev pub shared_text : Bool → List ℕ
shared_text true = codes " shared"
shared_text false = []

abbrev pub variable_line : List ℕ → VariableEntry → List ℕ
variable_line lines v =
    codes "  " ++ v.name ++ codes " " ++ decimal v.width ++ codes " bits" ++ shared_text v.shared
    ++ on_line (slice_get lines v.number) ++ ending

-- ---- channels

abbrev pub kind_text : ChannelKind → List ℕ
kind_text (Data width) = codes " " ++ decimal width ++ codes " bits"
kind_text Sync = codes " sync"

-- an end of branch k, if it is one of channel n
abbrev pub use_line : ℕ → ℕ → End → List ℕ
use_line n k e =
    cond (e.channel == n) (codes "    " ++ way_text e.way ++ codes ", branch " ++ decimal k ++ on_line e.line
    ++ ending) []

abbrev pub uses_lines : ℕ → BranchEntry → List ℕ
uses_lines n b = flat_map (use_line n b.number) b.ends

-- a channel, and the ends that use it
abbrev pub channel_head : List ℕ → ChannelEntry → List ℕ
channel_head lines c = codes "  " ++ c.name ++ kind_text c.kind ++ on_line (slice_get lines c.number) ++ ending

abbrev pub channel_lines : List BranchEntry → List ℕ → ChannelEntry → List ℕ
channel_lines branches lines c = channel_head lines c ++ flat_map (uses_lines c.number) branches

-- ---- enumerations

-- an element with its number
abbrev pub element_line : ℕ → List ℕ → List ℕ
element_line n name = codes "    " ++ name ++ codes " " ++ decimal n ++ ending

-- the elements, of which the first has the number n
abbrev pub element_lines : ℕ → List (List ℕ) → List ℕ
element_lines n [] = []
element_lines n (x ∷ xs) = element_line n x ++ element_lines (n + 1) xs

abbrev pub enumeration_lines : Enumeration → List ℕ
enumeration_lines e = codes "  " ++ e.name ++ codes " line " ++ decimal e.line ++ ending ++ element_lines 0 e.elements

-- ---- all of it

abbrev pub branches_text : Outline → Described → List ℕ
branches_text o d =
    count_line (codes "branches") (length o.branches) ++ flat_map (branch_lines o.channels d.calls) o.branches

abbrev pub calls_text : Described → List ℕ
calls_text d = count_line (codes "calls") (length d.calls) ++ flat_map call_line d.calls ++ deeper_line d.deeper

abbrev pub variables_text : Outline → Described → List ℕ
variables_text o d =
    count_line (codes "variables") (length o.variables) ++ flat_map (variable_line d.variable_lines.items) o.variables

abbrev pub channels_text : Outline → Described → List ℕ
channels_text o d =
    count_line (codes "channels") (length o.channels)
    ++ flat_map (channel_lines o.branches d.channel_lines.items) o.channels

abbrev pub enumerations_text : Described → List ℕ
enumerations_text d =
    count_line (codes "enumerations") (length d.enumerations) ++ flat_map enumeration_lines d.enumerations

-- what the system tells, with the calls that are branches and the lines of declarations that the source tells
abbrev pub system_text : Outline → Described → List ℕ
system_text o d = branches_text o d ++ variables_text o d ++ channels_text o d

-- what the source alone tells
abbrev pub source_text : Described → List ℕ
source_text d = calls_text d ++ enumerations_text d

-- the text of an outline
abbrev pub outline_text : Outline → Described → List ℕ
outline_text o d = system_text o d ++ source_text d
