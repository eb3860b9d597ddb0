-- An event taken back by its record.
-- No reader has to believe it: the law `records_revert` says that it gives the tree and the store to which the event
-- was applied.
use Rattle.std.specs.Prelude.{ℕ, List, [], ◌∷◌, Option, Some, None, option_map, slice_set}
use Rattle.std.specs.Option.{option_and_then}
use Rattle.value.specs.Word.{Word}
use Rattle.system.specs.Expression.{Store}
use Rattle.runs.specs.Moves.{Place}
use Rattle.runs.specs.declared.ask.Ask.{Ask}
use Rattle.runs.specs.Asking.{asked}
use Rattle.runs.specs.declared.event.Event.{Event}
use Rattle.process_tree.specs.Proc.{Proc}
use Rattle.process_tree.specs.Retreated.{retreated}
use Rattle.event_inverse.specs.Grown.{TreeAndStore, Taken}

-- the process before the moves, which took these out, one a move: the last is taken back first
abbrev pub all_retreated : Proc → List (Place × Ask) → List (Option Proc) → Option Proc
all_retreated p [] [] = Some p
all_retreated p [] (out ∷ removed) = None
all_retreated p (k ∷ ks) [] = None
all_retreated p (k ∷ ks) (out ∷ removed) = option_and_then (λ q. retreated q k.0 out) (all_retreated p ks removed)

-- the store with the value put back that was overwritten
abbrev pub written_back : Option ℕ → Option Word → Store → Store
written_back None v s = s
written_back (Some x) None s = s
written_back (Some x) (Some v) s = slice_set s x v

-- the tree before an event that left this record
abbrev pub reverted : TreeAndStore → Event → Taken → Option TreeAndStore
reverted T e r =
    option_and_then (λ ks.
    option_map (λ p. record { proc = p; store = written_back e.written r.old T.store })
    (all_retreated T.proc ks r.procs)) (asked e)
