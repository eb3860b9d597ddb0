-- An end of a channel that a walk finds, as contracts see it.
-- No reader has to believe it: `proofs/Summed.antt` ties what is found to `stands` of what is left of the tree.
use Rattle.runs.specs.Moves.{Place}
use Rattle.rings.specs.declared.ends.Kind.{Kind}
use Rattle.rings.specs.declared.sought.Sought.{Sought}

-- an end of a channel, and where it stands
pub record Placed : Type 0 where
  pub sought : Sought
  pub place : Place
  pub kind : Kind

abbrev pub placed : Sought → Place → Kind → Placed
placed s a k = record { sought = s; place = a; kind = k }
