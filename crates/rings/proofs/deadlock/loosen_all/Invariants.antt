use Rattle.std.proofs.Common.{◌+◌, length}
use Rattle.rings.specs.internal.Loosening.{Loosening}
use Rattle.rings.specs.internal.Tally.{times, total}
use Rattle.rings.proofs.deadlock.loosen_all.Given as goal

abbrev pub invariant-loosening : goal.invariant-loosening
invariant-loosening l = Loosening l.actions l.partners l.helped l.marks.items l.tables l.counts.items l.todo.items

abbrev pub decreases-loosening : goal.decreases-loosening
decreases-loosening l = times (total l.counts.items) (length l.actions) + length l.todo.items
