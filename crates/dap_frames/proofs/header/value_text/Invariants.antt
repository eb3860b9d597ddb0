use Rattle.std.proofs.Common.{◌≡◌, drop, true}
use Rattle.dap_frames.specs.Header as model
use Rattle.dap_frames.proofs.header.value_text.Given as goal

abbrev pub invariant-loop-i : goal.invariant-loop-i
invariant-loop-i l = model.value_text true l.header ≡ model.value_text l.begins (drop l.i l.header)
