use Rattle.std.proofs.Common.{◌≡◌, drop}
use Rattle.dap_frames.specs.Header as model
use Rattle.dap_frames.proofs.header.behind_spaces.Given as goal

abbrev pub invariant-loop-i : goal.invariant-loop-i
invariant-loop-i l = model.behind_spaces l.text ≡ model.behind_spaces (drop l.i l.text)
