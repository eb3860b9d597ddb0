use Rattle.object_workers.proofs.public.Turns.{call_ran, call_asked}
use Rattle.object_workers.proofs.worker.Worker.call.Goals as goal

pub returns-clause-ran : goal.returns-clause-ran
returns-clause-ran g c =
    call_ran _ _ g.D.Branches.asks g.B.Branching.count _ g.D.Branches.steps c.args.self.now c.count.new.self c.call-told.new.pass _ c.args.branch c.call-told.result
    c.call-told.ensures.pass c.call-told.ensures.recorded c.call-told.ensures.legal c.call-told.ensures.same c.ask-command.ensures c.requires.branch c.count.ensures.same.0 c.count.ensures.same.2 c.count.ensures.counted

pub returns-clause-asked : goal.returns-clause-asked
returns-clause-asked g c =
    call_asked g.D.Branches.asks c.args.self.now.pass c.call-told.new.pass _ _ c.args.branch c.call-told.result
    c.call-told.ensures.recorded c.call-told.ensures.same c.ask-command.ensures c.count.ensures.same.0
