use Rattle.std.proofs.Common.{get_or, ap, sym, ◌∙◌, arith}
use Rattle.std.specs.Ordering.{is_lt}
use Rattle.address.specs.declared.Entry.TheVariants.{Ordered}
use Rattle.dependence.proofs.ForkLaws.{parted-second_end, parted-first_end, parted-inside, entry-cmp}
use Rattle.dependence.proofs.forks.is_less.Goals as goal

pub returns-then-fork-b : goal.returns-then-fork-b
returns-then-fork-b c = sym (parted-second_end c.args.fork c.args.a.now c.args.b.now c.requires (omega (arith, c.if-fork-b.true)))

pub returns-then-fork-a : goal.returns-then-fork-a
returns-then-fork-a c =
    sym (parted-first_end c.args.fork c.args.a.now c.args.b.now c.requires (omega (arith, c.if-fork-a.true)) (omega (arith, c.if-fork-b.false)))

pub returns : goal.returns
returns c =
    c.is_lt.ensures
    ∙ (ap is_lt (c.cmp.ensures ∙ entry-cmp (get_or c.args.a.now c.args.fork (Ordered 0)) (get_or c.args.b.now c.args.fork (Ordered 0)))
    ∙ sym (parted-inside c.args.fork c.args.a.now c.args.b.now (Ordered 0) (Ordered 0) c.requires (omega (arith, c.if-fork-a.false)) (omega (arith, c.if-fork-b.false))))
