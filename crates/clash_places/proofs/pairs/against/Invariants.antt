use Rattle.std.proofs.Common.{◌≡◌, drop}
use Rattle.clash_places.specs.internal.Pairs.{against}
use Rattle.clash_places.proofs.pairs.against.Given as goal

abbrev pub invariant-loop-other : goal.invariant-loop-other
invariant-loop-other l = against l.system l.one (drop l.other-index l.uses) ≡ against l.system l.one l.uses
