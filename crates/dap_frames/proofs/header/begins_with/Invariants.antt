use Rattle.std.proofs.Common.{◌≡◌, ◌≤◌, length, drop}
use Rattle.dap_frames.specs.Header as model
use Rattle.dap_frames.proofs.header.begins_with.Given as goal

abbrev pub invariant-loop-i : goal.invariant-loop-i
invariant-loop-i l = record {
  rest : model.begins_with l.key l.text ≡ model.begins_with (drop l.i l.key) (drop l.i l.text);
  within : l.i ≤ length l.text;
}
