use Rattle.std.proofs.Common.{◌≡◌, ℕ, List, ◌++◌, length}
use Rattle.std.specs.Vec.Iter.{into_iter_items, into_iter_len}
use Rattle.dap_server.specs.Sent.{AreJson, frames}
use Rattle.dap_server.proofs.batch.add_frames.Given as goal

-- the frames of the messages so far are there
abbrev pub invariant-loop-message : goal.invariant-loop-message
invariant-loop-message l = record {
  rest : l.yielded ++ into_iter_items l.message-iterator ≡ l.fn.messages.items;
  left : into_iter_len l.message-iterator ≡ length (into_iter_items l.message-iterator);
  made : (bodies : List (List ℕ)) × AreJson l.yielded bodies × (l.bytes.items ≡ l.initial.bytes.items ++ frames bodies);
}
