use Rattle.std.proofs.Common.{◌≡◌, ◌+◌, ◌++◌, List, length}
use Rattle.std.specs.Vec.Iter.{into_iter_items, into_iter_len}
use Rattle.dap_messages.specs.Messages.{AreEvents}
use Rattle.dap_messages.specs.declared.message.Message.{Message}
use Rattle.dap_messages.proofs.message.add_events.Given as goal

-- the events of the notes so far are there
abbrev pub invariant-loop-note : goal.invariant-loop-note
invariant-loop-note l = record {
  rest : l.yielded ++ into_iter_items l.note-iterator ≡ l.fn.notes.items;
  left : into_iter_len l.note-iterator ≡ length (into_iter_items l.note-iterator);
  made : (more : List Message) × (l.messages.items ≡ l.initial.messages.items ++ more) × AreEvents (l.first + 1) l.yielded more
      × (l.seq ≡ l.first + length more);
}
