use Rattle.std.proofs.lemmas.Option.{slice_get_within}
use Rattle.dependence.proofs.consequences.kept_at.Goals as goal

pub index-requires : goal.index-requires
index-requires c = slice_get_within c.args.slots.now.entries c.args.place _ c.requires.2
