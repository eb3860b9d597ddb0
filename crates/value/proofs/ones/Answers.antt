-- A shift of all 64 ones leaves those of the width.
use Rattle.value.proofs.Numbers.{ones_by_shift}
use Rattle.value.proofs.ones.Goals as goal

pub returns : goal.returns
returns c = ones_by_shift c.args.width c.requires.within
