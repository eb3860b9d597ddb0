use Rattle.std.proofs.Common.{arith}
use Rattle.dependence.proofs.MarkEnds.{first-inside}
use Rattle.dependence.proofs.public.Markings.{unmarked-before}
use Rattle.dependence.proofs.marks.first_index.Goals as goal

pub returns-then-end-eq0 : goal.returns-then-end-eq0
returns-then-end-eq0 c = record { within = omega arith; none = λ i less on. absurd (omega arith) }

pub returns-in-Some : goal.returns-in-Some
returns-in-Some c =
    let none = unmarked-before c.args.list.now.live c.args.marks.now c.args.first c.in-Some.index c.requires.rising c.requires.size c.in-Some.ensures c.requires.lower in
    record { within = first-inside c.args.marks.now c.args.end c.in-Some.index (omega arith) c.requires.ended none; none = none }

pub returns-in-None : goal.returns-in-None
returns-in-None c = record { within = omega arith; none = λ i less on. absurd (omega arith) }
