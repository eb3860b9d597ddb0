-- Those so far are told.
use Rattle.std.proofs.Common.{◌≡◌, ◌++◌, length}
use Rattle.std.specs.Vec.Iter.{into_iter_items, into_iter_len}
use Rattle.dap_requests.specs.Said.{Tells}
use Rattle.dap_requests.specs.Sets.{changes_of}
use Rattle.dap_requests.proofs.breakpoints.tell_each.Given as goal

abbrev pub invariant-loop-one : goal.invariant-loop-one
invariant-loop-one l =
    record {
      rest : l.yielded ++ into_iter_items l.one-iterator ≡ l.fn.shown.items;
      left : into_iter_len l.one-iterator ≡ length (into_iter_items l.one-iterator);
      told : Tells l.initial.answer (changes_of l.yielded) l.answer;
      same : (l.answer.outcome ≡ l.initial.answer.outcome) × (l.answer.effect ≡ l.initial.answer.effect);
    }
