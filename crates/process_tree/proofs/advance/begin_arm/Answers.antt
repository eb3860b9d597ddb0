-- The arm of this number.
use Rattle.std.proofs.Common.{◌∙◌, sym, ap}
use Rattle.std.proofs.lemmas.Result.{IfOk-weaker}
use Rattle.process_tree.specs.Proc.{started}
use Rattle.process_tree.specs.View.{proc_view}
use Rattle.process_tree.proofs.public.Steps.{arm-at, arm-past}
use Rattle.process_tree.proofs.public.Views.{proc_idle}
use Rattle.process_tree.proofs.advance.begin_arm.Goals as goal

pub returns-in-Some : goal.returns-in-Some
returns-in-Some c =
    IfOk-weaker c.begin.result _ _ (λ body h. h ∙ ap started (sym (arm-at c.args.arms.now c.args.arm c.in-Some.code.now (sym c.in-Some.ensures.value)))) c.begin.ensures

pub returns-in_ok-new-in-None : goal.returns-in_ok-new-in-None
returns-in_ok-new-in-None c =
    ap proc_view c.in_ok-new-in-None.ensures.ok ∙ proc_idle ∙ sym (ap started (arm-past c.args.arms.now c.args.arm (sym c.in-None.ensures.value)))
