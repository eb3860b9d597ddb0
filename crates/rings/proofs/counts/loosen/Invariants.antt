use Rattle.rings.proofs.Tallied.{LoosensFrom}
use Rattle.rings.proofs.counts.loosen.Given as goal

abbrev pub invariant-clearing : goal.invariant-clearing
invariant-clearing l = LoosensFrom l.edges l.beside l.waiters l.number l.below l.fn.marks.items l.marks.items l.fn.counts.items l.counts.items l.fn.todo.items l.todo.items

abbrev pub decreases-clearing : goal.decreases-clearing
decreases-clearing l = l.below
