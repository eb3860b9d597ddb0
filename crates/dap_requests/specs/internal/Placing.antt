-- One breakpoint more, and what is told of each.
use Rattle.std.specs.Prelude.{◌≡◌, ◌++◌, [], ◌∷◌, ℕ, Bool, List, Option, false, map}
use Rattle.serde_json.specs.View.{items_view, view}
use Rattle.system.specs.declared.command.Command.{Command}
use Rattle.dap_views.specs.declared.lines.Lines.{Lines}
use Rattle.dap_views.specs.declared.program.Asked.{Asked}
use Rattle.dap_messages.specs.declared.members.Listed.{Listed}
use Rattle.dap_messages.specs.declared.told.Told.{Told}
use Rattle.dap_requests.specs.Lists.{Shown, Tells, all_shown, breakpoint_told, each, shown_as}
use Rattle.dap_requests.specs.Sets.{StandsIn, moves_told, texts_of, with_stop}
use Rattle.dap_requests.specs.declared.breakpoints.Making.{Making}
use Rattle.dap_requests.specs.declared.breakpoints.Placing.{Placing}

-- what is to be told of breakpoints that are being placed, to a client that counts so much less, is told of each
abbrev pub AreTold : ℕ → Making → Type 0
AreTold less making = Tells breakpoint_told (all_shown less making.asked.items) making.shown

-- and of those that were
abbrev pub AreShown : ℕ → Placing → Type 0
AreShown less placing = each breakpoint_told (items_view placing.shown.items) ≡ all_shown less placing.asked.items

-- the lines of text that are made for those that have moved
abbrev pub texts_made : Listed → List Told
texts_made list = texts_of (map view list.made.items)

abbrev pub AreMoving : Making → Type 0
AreMoving making = making.moved.lacks ≡ false → texts_made making.moved ≡ moves_told making.asked.items

-- and that were
abbrev pub AreMoved : Placing → Type 0
AreMoved placing = texts_of placing.moved.items ≡ moves_told placing.asked.items

-- one more is made behind those that are, if this one has moved
abbrev pub MovesMore : Asked → Listed → Listed → Type 0
MovesMore a before after =
    after.lacks ≡ false →
    (before.lacks ≡ false) × (texts_made after ≡ texts_made before ++ moves_told (a ∷ []))

-- one more is told behind those that are
abbrev pub TellsMore : ℕ → Asked → Listed → Listed → Type 0
TellsMore less a before after =
    (told : List Shown) → Tells breakpoint_told told before → Tells breakpoint_told (told ++ shown_as less a ∷ []) after

-- a breakpoint is placed behind those that are, and what is to be told of it too
pub record PlacesOne (own : Bool) (c : Command) (lines : Lines) (less : ℕ) (one : Asked)
    (before after : Making) : Type 0 where
  pub at : Option ℕ
  pub stands : StandsIn own c lines before.stops.items one.line at
  pub asked : after.asked.items ≡ before.asked.items ++ record one { at = at } ∷ []
  pub stops : after.stops.items ≡ with_stop before.stops.items at
  pub told : AreTold less before → AreTold less after
  pub moved : AreMoving before → AreMoving after
