use Rattle.std.proofs.Common.{sym, subst}
use Rattle.locked_execution.specs.AtDesk.{AtDesk}
use Rattle.dap_moves.specs.Passing.{IsIdle}
use Rattle.dap_moves.specs.internal.Turning.{TakesOne}
use Rattle.dap_moves.proofs.Nearest.{sooner-on}
use Rattle.dap_moves.proofs.run.step_next.Goals as goal

pub returns-in-Some-clause-takes : goal.returns-in-Some-clause-takes
returns-in-Some-clause-takes c = λ seen.
    let it = c.in-Some.ensures.takes in
    it.steps c.args.turn seen
    (sooner-on c.args.desk.now c.args.plan.now.only c.args.turn it.branch c.args.count c.requires.all c.requires.count it.behind it.within it.idle)

pub returns-in-None-clause-takes : goal.returns-in-None-clause-takes
returns-in-None-clause-takes c = λ seen.
    subst (λ (x : AtDesk). TakesOne c.args.plan.now c.args.turn seen x c.step_before.new.desk c.step_before.result seen)
    c.in-None.ensures.takes.0 (c.step_before.ensures.takes seen)

pub step_before-requires-clause-idle : goal.step_before-requires-clause-idle
step_before-requires-clause-idle c = λ k behind less.
    subst (λ (d : AtDesk). IsIdle d k) (sym c.in-None.ensures.takes.0) (c.in-None.ensures.takes.1 k behind less)
