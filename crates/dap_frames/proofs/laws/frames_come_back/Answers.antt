use Rattle.dap_frames.proofs.ComesBack.{comes-back}
use Rattle.dap_frames.proofs.laws.frames_come_back.Goals as goal

pub returns : goal.returns
returns c = comes-back
