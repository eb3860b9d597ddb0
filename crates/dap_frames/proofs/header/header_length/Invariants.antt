use Rattle.std.proofs.Common.{◌≡◌, drop}
use Rattle.dap_frames.specs.Header as model
use Rattle.dap_frames.proofs.header.header_length.Given as goal

abbrev pub invariant-loop-i : goal.invariant-loop-i
invariant-loop-i l = model.header_length l.bytes ≡ model.header_length_from l.i (drop l.i l.bytes)
