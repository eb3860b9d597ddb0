-- The names of a typed source are its procedures' own.
use Rattle.typed_source.proofs.OwnNames.{names_own}
use Rattle.typed_source.proofs.laws.names_are_own.Goals as goal

pub returns : goal.returns
returns c = names_own c.declared_names_are_distinct.ensures.stay c.declared_names_are_distinct.ensures.distinct
