-- Those so far are told.
use Rattle.std.proofs.Common.{◌≡◌, ◌++◌, length}
use Rattle.std.specs.Vec.Iter.{into_iter_items, into_iter_len}
use Rattle.dap_requests.specs.Said.{Tells}
use Rattle.dap_requests.specs.Sets.{texts_of}
use Rattle.dap_requests.proofs.breakpoints.tell_texts.Given as goal

abbrev pub invariant-loop-body : goal.invariant-loop-body
invariant-loop-body l =
    record {
      rest : l.yielded ++ into_iter_items l.body-iterator ≡ l.fn.texts.items;
      left : into_iter_len l.body-iterator ≡ length (into_iter_items l.body-iterator);
      told : Tells l.initial.answer (texts_of l.yielded) l.answer;
      same : (l.answer.outcome ≡ l.initial.answer.outcome) × (l.answer.effect ≡ l.initial.answer.effect);
    }
