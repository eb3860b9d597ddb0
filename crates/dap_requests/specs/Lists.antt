-- What the list of breakpoints in a response tells.
use Rattle.std.specs.Prelude.{ℕ, ◌≡◌, ◌-◌, Bool, false, List, [], ◌∷◌, Option, Some, codes, is_some, map, option_and_then, unwrap_or}
use Rattle.std.specs.Option.{option_map}
use Rattle.serde_json.specs.Data.{Data, Items, item, no_items, null}
use Rattle.serde_json.specs.Find.{as_array, get}
use Rattle.serde_json.specs.View.{items_view, view}
use Rattle.dap_messages.specs.Arguments.{flag_named, number_named}
use Rattle.dap_messages.specs.declared.answer.Answer.{Answer}
use Rattle.dap_messages.specs.declared.answer.Outcome.{Outcome}
use Rattle.dap_messages.specs.declared.members.Listed.{Listed}
use Rattle.dap_views.specs.declared.program.Asked.{Asked}

-- the body of what is done, `null` where it has none
abbrev pub body_of : Outcome → Data
body_of (Outcome.Done (Some body)) = view body
body_of _ = null

-- the list of breakpoints of what is done
abbrev pub list_in : Outcome → Option Items
list_in outcome = option_and_then as_array (get (codes "breakpoints") (body_of outcome))

-- what is read of each item, in order
abbrev pub each : {A : Type 0} → (Data → A) → Items → List A
each reads no_items = []
each reads (item d ds) = reads d ∷ each reads ds

-- a list that is made tells this, item by item, and nothing else, where there was memory for all
abbrev pub Tells : {A : Type 0} → (Data → A) → List A → Listed → Type 0
Tells reads told list = list.lacks ≡ false → each reads (items_view list.made.items) ≡ told

-- so does the list of the response, which is done then
abbrev pub Lists : {A : Type 0} → (Data → A) → List A → Answer → Type 0
Lists reads told b = b.lacks ≡ false → option_map (each reads) (list_in b.outcome) ≡ Some told

-- what an item tells of a breakpoint: its number, whether it stands on a line, and a line
pub record Shown : Type 0 where
  pub id : Option ℕ
  pub verified : Option Bool
  pub line : Option ℕ

abbrev pub breakpoint_told : Data → Shown
breakpoint_told d = record {
  id = number_named (codes "id") d;
  verified = flag_named (codes "verified") d;
  line = number_named (codes "line") d;
}

-- what is to be told of one to a client that counts so much less: the line on which it stands, and where it stands on
-- none that for which it was asked
abbrev pub shown_as : ℕ → Asked → Shown
shown_as less a = record { id = Some a.id; verified = Some (is_some a.at); line = Some (unwrap_or a.at a.line - less) }

-- of each breakpoint, in order
abbrev pub all_shown : ℕ → List Asked → List Shown
all_shown less asked = map (shown_as less) asked

-- whether an item tells that a breakpoint stands on a line, and a line
abbrev pub stand_told : Data → Option Bool × Option ℕ
stand_told d = (flag_named (codes "verified") d, number_named (codes "line") d)

-- what is to be told of lines on which none stands, in order
abbrev pub unset_as : ℕ → Option Bool × Option ℕ
unset_as line = (Some false, Some line)

abbrev pub none_shown : List ℕ → List (Option Bool × Option ℕ)
none_shown lines = map unset_as lines

-- whether an item tells that it is watched
abbrev pub verified_told : Data → Option Bool
verified_told d = flag_named (codes "verified") d
