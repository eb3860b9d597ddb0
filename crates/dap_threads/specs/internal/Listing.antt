-- Lists that are being made, an item at a time.
use Rattle.std.specs.Prelude.{◌≡◌, ◌<◌, ◌^◌, ◌++◌, false, List, codes, map}
use Rattle.serde_json.specs.Data.{Data, number, unsigned}
use Rattle.serde_json.specs.View.{view}
use Rattle.dap_messages.specs.Written.{Has}
use Rattle.dap_messages.specs.declared.members.Listed.{Listed}
use Rattle.dap_messages.specs.declared.members.Members.{Members}
use Rattle.dap_views.specs.Handles.{number_of, reference}
use Rattle.dap_views.specs.declared.handles.Handle.{Handle}
use Rattle.dap_views.specs.declared.index.Named.{Named}
use Rattle.dap_threads.specs.Given.{AreUnfoldedBy}
use Rattle.dap_threads.specs.Variables.{AreLeaves, AreNamed}

-- an object has the number by which this is unfolded
abbrev pub HasReference : Members → Handle → Type 0
HasReference ms handle =
    number_of handle < 2 ^ 32 → Has ms (codes "variablesReference") (number (unsigned (reference handle)))

-- the items of a list are unfolded by these, where there was memory for all
abbrev pub ListsUnfolded : Listed → List Handle → Type 0
ListsUnfolded list handles = list.lacks ≡ false → AreUnfoldedBy (map view list.made.items) handles

-- they tell these names
abbrev pub ListsNamed : Listed → List Named → Type 0
ListsNamed list names = list.lacks ≡ false → AreNamed (map view list.made.items) names

-- none of them is unfolded
abbrev pub ListsLeaves : Listed → Type 0
ListsLeaves list = list.lacks ≡ false → AreLeaves (map view list.made.items)

-- behind the items of a list there are others, which are unfolded by these
abbrev pub AddsUnfolded : Listed → List Handle → Listed → Type 0
AddsUnfolded before handles after =
    after.lacks ≡ false →
    (more : List Data) × (before.lacks ≡ false) × (map view after.made.items ≡ map view before.made.items ++ more)
    × AreUnfoldedBy more handles
