-- What a record in memory stands for, and a tree with its store.
use Rattle.std.specs.Prelude.{List, [], ◌∷◌, Option}
use Rattle.system.specs.Expression.{Store}
use Rattle.runs.specs.declared.event.Event.{Event}
use Rattle.process_tree.specs.Proc.{Proc}
use Rattle.process_tree.specs.View.{out_view, tree_view}
use Rattle.process_tree.specs.declared.tree.Tree as process_tree
use Rattle.event_inverse.specs.Grown.{TreeAndStore, Taken}
use Rattle.event_inverse.specs.declared.record.Removed.{Removed}
use Rattle.event_inverse.specs.declared.record.Removed.TheVariants.{One, Two}
use Rattle.event_inverse.specs.declared.record.Inverse.{Inverse}
use Rattle.event_inverse.specs.declared.record.Record.{Record}

-- a tree in memory, with the values of the variables
abbrev pub both_view : process_tree.Tree → Store → TreeAndStore
both_view tree store = record { proc = tree_view tree; store = store }

-- what the moves of an event took out, in their order
abbrev pub removed_view : Removed → List (Option Proc)
removed_view (One out) = out_view out ∷ []
removed_view (Two first second) = out_view first ∷ out_view second ∷ []

-- what the undo of an event needs beside the event
abbrev pub inverse_view : Inverse → Taken
inverse_view v = record { procs = removed_view v.removed; old = v.overwritten }

-- an event with its inverse
abbrev pub record_view : Record → Event × Taken
record_view r = (r.event, inverse_view r.inverse)
