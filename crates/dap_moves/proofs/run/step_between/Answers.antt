use Rattle.std.proofs.Common.{ℕ, Option, refl, sym, ◌∙◌, subst, arith}
use Rattle.locked_execution.specs.AtDesk.{AtDesk}
use Rattle.dap_moves.specs.Passing.{IsIdle, MayGo}
use Rattle.dap_moves.specs.internal.Turning.{StepsIfNext}
use Rattle.dap_moves.proofs.Running.{idle-more}
use Rattle.dap_moves.proofs.run.step_between.Goals as goal

pub loop-branch-init : goal.loop-branch-init
loop-branch-init c = record { same = refl; idle = λ k behind less. absurd (omega (arith, behind, less)) }

pub loop-branch-preserved : goal.loop-branch-preserved
loop-branch-preserved c =
    let at = c.loop-branch in
    record {
      same = c.in_default.ensures.takes.0 ∙ at.invariant.same;
      idle =
          idle-more c.args.desk.now c.args.from at.branch at.invariant.idle
          (subst (λ (d : AtDesk). IsIdle d at.branch) at.invariant.same c.in_default.ensures.takes.1);
    }

pub returns-in-Some-clause-takes : goal.returns-in-Some-clause-takes
returns-in-Some-clause-takes c =
    let at = c.loop-branch in
    record {
      branch = at.branch;
      behind = at.auto.branch;
      within = c.loop-branch-test.true;
      idle = at.invariant.idle;
      steps =
          subst (λ (d : AtDesk). StepsIfNext c.args.plan.now d c.step_branch.new.desk at.branch c.in-Some.outcome) at.invariant.same
          c.in-Some.ensures.takes;
    }

pub step_branch-requires-clause-may : goal.step_branch-requires-clause-may
step_branch-requires-clause-may c = subst (λ (only : Option ℕ). MayGo only c.loop-branch.branch) (sym c.requires.all) tt
