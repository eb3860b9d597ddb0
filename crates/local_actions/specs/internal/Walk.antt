-- What a walk through a process lists, and received values put as the code puts them.
-- No reader has to believe it: `found-is` in `proofs/public/Walked.antt` ties what a walk from the root finds to the
-- actions that are offered.
use Rattle.std.specs.Prelude.{List, [], ◌∷◌}
use Rattle.address.specs.declared.Entry.{Entry}
use Rattle.system.specs.Expression.{Store, Expression, Decision, put_value, put_decision}
use Rattle.process_tree.specs.Proc.{Proc}
use Rattle.local_actions.specs.Walk.{Walk, added}
use Rattle.local_actions.specs.internal.Listed.{behind, listed}
use Rattle.local_actions.specs.declared.around.Arrived.{Arrived}

-- what is listed of a process
abbrev pub lists : Store → Proc → Walk → Walk
lists s p w = added (listed s w.received p).actions w

-- of one at this entry
abbrev pub lists_at : Entry → Store → Proc → Walk → Walk
lists_at x s p w = added (behind x (listed s w.received p).actions) w

-- the values put in an expression, one after another
abbrev pub put_each : List Arrived → Expression → Expression
put_each [] e = e
put_each (a ∷ rest) e = put_each rest (put_value a.channel a.value e)

-- and in a test
abbrev pub put_each_decision : List Arrived → Decision → Decision
put_each_decision [] d = d
put_each_decision (a ∷ rest) d = put_each_decision rest (put_decision a.channel a.value d)
