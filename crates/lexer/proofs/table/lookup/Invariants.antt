use Rattle.std.proofs.Common.{◌≡◌, length, map}
use Rattle.lexer.specs.Table.{lookup}
use Rattle.lexer.proofs.table.lookup.Given as goal

abbrev pub invariant-loop-rest : goal.invariant-loop-rest
invariant-loop-rest l = lookup (map (λ entry. (entry.0.now, entry.1)) l.rest) l.text ≡ lookup (map (λ entry. (entry.0.now, entry.1)) l.fn.table) l.text

abbrev pub decreases-loop-rest : goal.decreases-loop-rest
decreases-loop-rest l = length l.rest
