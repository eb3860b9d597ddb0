use Rattle.std.proofs.Common.{◌≡◌, drop}
use Rattle.clash_places.specs.internal.Pairs.{first_clash}
use Rattle.clash_places.proofs.pairs.first_clash.Given as goal

abbrev pub invariant-loop-one : goal.invariant-loop-one
invariant-loop-one l = first_clash l.system l.offset l.all (drop l.one-index l.uses) ≡ first_clash l.system l.offset l.all l.uses
