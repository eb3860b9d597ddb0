use Rattle.std.proofs.Common.{refl}
use Rattle.locked_object.proofs.Histories.{keeper_same}
use Rattle.locked_object.proofs.keeper.Keeper.tell.Goals as goal

pub returns-clause-keeper : goal.returns-clause-keeper
returns-clause-keeper g c = keeper_same g.D.Object.performs _ _ c.args.self.now _ c.tell.ensures.recorder.0 refl refl c.tell.ensures.recorder.1 c.requires.keeper
