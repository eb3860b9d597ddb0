use Rattle.std.proofs.Common.{rules, subst, sym}
use Rattle.object_workers.specs.internal.Workers.{IsReady}
use Rattle.object_workers.proofs.Gathering.{ready_at, all_ran, same_ran}
use Rattle.object_workers.proofs.threads.run_all.Goals as goal

pub for_each_mut-requires-clause-accepts : goal.for_each_mut-requires-clause-accepts
for_each_mut-requires-clause-accepts g c κs within = λ i p less is. (
  (subst (IsReady _ _ _) (sym is) (ready_at _ _ _ c.args.workers.now i p.now c.requires.ready less), c.requires.room),
  search rules,
)

pub returns : goal.returns
returns g c =
    all_ran _ _ _ g.D.Branches.asks g.D.Branches.steps g.B.Branching.count c.args.turns c.args.workers.now c.for_each_mut.new.s (sym c.for_each_mut.auto.s)
    (λ i d less. let at = (c.for_each_mut.ensures i d less).1 in same_ran _ _ _ g.D.Branches.asks g.D.Branches.steps g.B.Branching.count c.args.turns _ _ _ _ at.argument_is at.left at.call)
