use Rattle.std.proofs.Common.{ℕ, Option, refl, sym, subst}
use Rattle.dap_moves.specs.Passing.{MayGo, NoneSooner}
use Rattle.dap_moves.specs.Running.{NothingGoes}
use Rattle.dap_moves.proofs.Nearest.{sooner-alone}
use Rattle.dap_moves.proofs.Running.{alone-idle}
use Rattle.dap_moves.proofs.run.step_alone.Goals as goal

pub returns-in-Some-clause-takes : goal.returns-in-Some-clause-takes
returns-in-Some-clause-takes c = λ turn seen.
    c.in-Some.ensures.takes turn seen
    (subst (λ (only : Option ℕ). NoneSooner c.args.desk.now only turn c.args.branch) (sym c.requires.alone)
    (sooner-alone c.args.desk.now turn c.args.branch))

pub returns-in-None-clause-takes : goal.returns-in-None-clause-takes
returns-in-None-clause-takes c = λ turn seen. (
  c.in-None.ensures.takes.0,
  subst (λ (only : Option ℕ). NothingGoes c.args.desk.now only) (sym c.requires.alone)
      (alone-idle c.args.desk.now c.args.branch c.in-None.ensures.takes.1),
  refl,
)

pub step_branch-requires-clause-may : goal.step_branch-requires-clause-may
step_branch-requires-clause-may c = subst (λ (only : Option ℕ). MayGo only c.args.branch) (sym c.requires.alone) refl
