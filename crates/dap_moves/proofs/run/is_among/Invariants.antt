use Rattle.std.proofs.Common.{◌≡◌, drop}
use Rattle.system.specs.Expression.{is_in}
use Rattle.dap_moves.proofs.run.is_among.Given as goal

abbrev pub invariant-loop-held : goal.invariant-loop-held
invariant-loop-held l = is_in l.line (drop l.held-index l.lines) ≡ is_in l.line l.lines
