use Rattle.dependence.proofs.ListedLaws.{live-some}
use Rattle.dependence.proofs.live_list.place_of.Goals as goal

pub unreachable-requires : goal.unreachable-requires
unreachable-requires c = live-some c.args.slots.now.entries c.args.ticket c.requires.live c.in-None.ensures
