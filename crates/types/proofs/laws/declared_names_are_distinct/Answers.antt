-- The names that a procedure declares are distinct.
use Rattle.types.proofs.DeclaredDistinct.{names_distinct, names_stay}
use Rattle.types.proofs.laws.declared_names_are_distinct.Goals as goal

pub returns : goal.returns
returns c = record { stay = names_stay; distinct = names_distinct }
