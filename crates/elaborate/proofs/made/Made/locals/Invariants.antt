use Rattle.std.proofs.Common.{◌≡◌, [], drop}
use Rattle.elaborate.specs.internal.Making.{locals_onto}
use Rattle.elaborate.proofs.made.Made.locals.Given as goal

abbrev pub invariant-loop-local : goal.invariant-loop-local
invariant-loop-local l =
    locals_onto l.numbers l.prefix l.self (drop l.local-index l.locals) ≡ locals_onto [] l.prefix l.initial.self l.locals
