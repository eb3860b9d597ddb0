use Rattle.std.proofs.Common.{◌≡◌, drop}
use Rattle.system.specs.Expression.{is_in}
use Rattle.machine.proofs.among.is_among.Given as goal

abbrev pub invariant-loop-held : goal.invariant-loop-held
invariant-loop-held l = is_in l.number (drop l.held-index l.numbers) ≡ is_in l.number l.numbers
