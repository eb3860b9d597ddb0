use Rattle.std.proofs.Common.{◌≡◌, drop, false}
use Rattle.dap_frames.specs.Header as model
use Rattle.dap_frames.proofs.header.ends_bare.Given as goal

abbrev pub invariant-loop-i : goal.invariant-loop-i
invariant-loop-i l = model.ends_bare false l.bytes ≡ model.ends_bare l.returned (drop l.i l.bytes)
