use Rattle.std.proofs.Common.{◌≡◌, ◌++◌, take, drop}
use Rattle.dap_frames.specs.Header as model
use Rattle.dap_frames.proofs.header.up_to_return.Given as goal

abbrev pub invariant-loop-i : goal.invariant-loop-i
invariant-loop-i l = model.up_to_return l.text ≡ take l.i l.text ++ model.up_to_return (drop l.i l.text)
