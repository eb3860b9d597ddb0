use Rattle.std.proofs.lemmas.Option.{slice_get_within}
use Rattle.dependence.proofs.live_list.kept_of.Goals as goal

pub index-requires : goal.index-requires
index-requires c = slice_get_within c.args.slots.now.entries c.place_of.result _ c.place_of.ensures.1
