use Rattle.std.proofs.Common.{◌≡◌, drop}
use Rattle.std.specs.Prelude.{nat_eq}
use Rattle.std.specs.Cmp.Lexicographic.{pointwise}
use Rattle.lexer.proofs.table.is_text.Given as goal

abbrev pub invariant-loop-place : goal.invariant-loop-place
invariant-loop-place l = pointwise nat_eq (drop l.place l.entry) (drop l.place l.text) ≡ pointwise nat_eq l.entry l.text
