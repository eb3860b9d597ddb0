use Rattle.source_places.specs.Places.{BeginsLine}
use Rattle.source_places.proofs.line_start.Given as goal

abbrev pub invariant-loop-index : goal.invariant-loop-index
invariant-loop-index l = BeginsLine l.text l.index l.start
