use Rattle.parser.specs.internal.Reads.{place}
use Rattle.parser.proofs.InsideLemmas.{begins_whole, told}
use Rattle.parser.proofs.front.refusal_within.Goals as goal
use Rattle.parser.proofs.front.refusal_within.Goals.{in-Ok, in-Err}

pub returns : goal.returns
returns c = elim c.match-whole.branch [
  | in-Ok w ↦ rw w.result-is (begins_whole c.args.tokens.now _ (place c.whole.new.cursor) (rw c.new-cursor.ensures at w.in-Ok.ensures))
  | in-Err w ↦
      rw (w.result-is, w.fault_before.ensures, w.rest.ensures)
      (told c.args.tokens.now c.whole.new.cursor.rest.now w.in-Err.halt (rw c.new-cursor.ensures at w.in-Err.ensures))
]
