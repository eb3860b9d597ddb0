-- The history as it lies in memory: its tree, its values and what undos need stand for the run of the live events.
-- No reader has to believe it: the methods of `Machine` are said of `AtMachine`, which has none of these, and of
-- `object`.
use Rattle.std.specs.Prelude.{◌≡◌, ℕ, List, [], ◌∷◌, length}
use Rattle.sharing_check.specs.declared.checked.Checked.{Checked}
use Rattle.runs.specs.Steps.{opening}
use Rattle.runs.specs.Live.{Live, events}
use Rattle.runs.specs.Object.{Object}
use Rattle.runs.specs.Sound.{Sound}
use Rattle.runs.specs.declared.event.Event.{Event}
use Rattle.process_tree.specs.Code.{Code}
use Rattle.process_tree.specs.Tidy.{Tidy}
use Rattle.process_tree.specs.Translation.{system_code}
use Rattle.process_tree.specs.View.{tree_view}
use Rattle.event_inverse.specs.Grown.{TreeAndStore, Records, StandFor}
use Rattle.event_inverse.specs.View.{both_view, inverse_view}
use Rattle.event_inverse.specs.declared.record.Inverse.{Inverse}
use Rattle.channel_uses.specs.StemsFrom.{StemsFrom}
use Rattle.channel_uses.specs.Table.{IsTableOf}
use Rattle.channel_uses.specs.declared.table.ChannelUses.{ChannelUses}
use Rattle.machine.specs.AtMachine.{at_machine, object}
use Rattle.machine.specs.declared.history.History.{History}

-- the execution of a system with these live events
abbrev pub execution : Checked → History → Object
execution checked h = object (at_machine checked h)

-- the tree with the values of the variables
abbrev pub tree_of : History → TreeAndStore
tree_of h = both_view h.tree h.store

-- each event with what its undo needs
abbrev pub with_inverses : List Event → List Inverse → Records
with_inverses [] is = []
with_inverses (e ∷ es) [] = []
with_inverses (e ∷ es) (i ∷ is) = (e, inverse_view i) ∷ with_inverses es is

-- a sound execution of the system, to whose live events T leads, with an inverse for each
pub record Stands (checked : Checked) (T : TreeAndStore) (l : Live) (inverses : List Inverse) (next : ℕ) : Type 0 where
  pub sound : Sound (record { opening = opening checked; live = l; next = next })
  pub run : StandFor checked (events l) T (with_inverses (events l) inverses)
  pub even : length inverses ≡ length l

-- so it is in a history
abbrev pub Holds : Checked → History → Type 0
Holds checked h = Stands checked (tree_of h) h.live.live h.inverses h.next

-- these are the uses of channels in the system
abbrev pub KnowsUses : Checked → ChannelUses → Type 0
KnowsUses checked uses = IsTableOf (system_code checked) uses

-- the tree is one of runs, and stems from a command whose uses of channels these are
pub record IsSearched (h : History) (uses : ChannelUses) : Type 0 where
  pub code : Code
  pub table : IsTableOf code uses
  pub stems : StemsFrom (tree_view h.tree) code
  pub tidy : Tidy (tree_view h.tree)
