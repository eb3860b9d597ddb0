use Rattle.locked_object.proofs.Locking.{unlocks}
use Rattle.locked_object.proofs.shared.Shared.unlock.Goals as goal

pub give-requires-clause-mark : goal.give-requires-clause-mark
give-requires-clause-mark g c = (c.requires.mark.0, unlocks c.args.taken.mark.id c.args.taken.mark.view c.requires.mark.1)
