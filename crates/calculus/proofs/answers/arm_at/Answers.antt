use Rattle.std.proofs.Common.{ap, sym, ◌∙◌}
use Rattle.std.specs.Option.{option_copied}
use Rattle.calculus.proofs.TreeAnswers.{arm_copied, arm_missed}
use Rattle.calculus.proofs.answers.arm_at.Goals as goal

pub returns-in-Some : goal.returns-in-Some
returns-in-Some c =
    arm_copied _ c.args.arms.now c.args.arm _ _ (sym c.get.ensures.value ∙ ap option_copied c.in-Some.is) c.clone.ensures.cases

pub returns-in-None : goal.returns-in-None
returns-in-None c = arm_missed _ c.args.arms.now c.args.arm (sym c.get.ensures.value ∙ ap option_copied c.in-None.is) c.done.ensures
