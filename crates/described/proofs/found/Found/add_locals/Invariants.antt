-- With the locals that are left, it is what all of them add.
use Rattle.std.proofs.Common.{◌≡◌, drop}
use Rattle.described.specs.Telling.{with_locals}
use Rattle.described.proofs.found.Found.add_locals.Given as goal

abbrev pub invariant-loop-local : goal.invariant-loop-local
invariant-loop-local l = with_locals (drop l.local-index l.locals) l.self ≡ with_locals l.locals l.initial.self
