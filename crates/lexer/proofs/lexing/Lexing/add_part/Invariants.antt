use Rattle.std.proofs.Common.{◌≡◌, ◌≤◌, true, length}
use Rattle.lexer.proofs.public.PartLemmas.{IsPartSoFar}
use Rattle.lexer.proofs.lexing.Lexing.add_part.Given as goal

abbrev pub invariant-loop-left : goal.invariant-loop-left
invariant-loop-left l = record {
  so : IsPartSoFar l.fn.self l.fn.part.items l.most l.self l.part.items l.left;
  some : l.has_procedure ≡ true → 1 ≤ length l.part.items;
}

abbrev pub decreases-loop-left : goal.decreases-loop-left
decreases-loop-left l = length l.self.rest.now
