use Rattle.std.proofs.Common.{refl, sym, subst}
use Rattle.runs.specs.Live.{Live, NoWriter}
use Rattle.dependence.proofs.LastWriters.{last-writes, last-below}
use Rattle.dependence.proofs.whole.last_writer.Goals as goal

pub returns-in_default : goal.returns-in_default
returns-in_default c = subst (λ (k : Live). NoWriter k c.args.variable) (sym c.in_default.ensures) (λ u f i. absurd i)

pub returns-then-writes : goal.returns-then-writes
returns-then-writes c =
    last-writes c.args.list.now.live c.args.variable c.in-Some.last.0 c.in-Some.last.1.now c.requires.rising c.in-Some.ensures (c.if-writes.ensures.0 refl)

pub returns : goal.returns
returns c =
    last-below c.args.list.now.live c.args.tables.now c.args.variable c.in-Some.last.0 c.in-Some.last.1.now c.last-2.result c.requires.rising c.requires.tables
    c.in-Some.ensures (λ w. let on = c.if-writes.ensures.1 w in cc) c.last-2.ensures
