use Rattle.std.proofs.Common.{ℕ, Option, refl, sym, subst}
use Rattle.dap_moves.specs.Running.{NothingGoes}
use Rattle.dap_moves.proofs.Nearest.{sooner-around}
use Rattle.dap_moves.proofs.Running.{all-idle}
use Rattle.dap_moves.proofs.run.step_before.Goals as goal

pub returns-in-Some-clause-takes : goal.returns-in-Some-clause-takes
returns-in-Some-clause-takes c = λ seen.
    let it = c.in-Some.ensures.takes in
    it.steps c.args.turn seen
    (sooner-around c.args.desk.now c.args.plan.now.only c.args.turn it.branch c.args.count c.requires.all c.requires.count it.within
    c.requires.idle it.idle)

pub returns-in-None-clause-takes : goal.returns-in-None-clause-takes
returns-in-None-clause-takes c = λ seen. (
  c.in-None.ensures.takes.0,
  subst (λ (only : Option ℕ). NothingGoes c.args.desk.now only) (sym c.requires.all)
      (all-idle c.args.desk.now c.args.turn c.args.count c.requires.count c.requires.idle c.in-None.ensures.takes.1),
  refl,
)
