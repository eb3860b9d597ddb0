-- What the arms of `if` and `case` owe, of right arms alone; and lists, with one part more.
use Rattle.std.proofs.Common.{◌≡◌, ◌∙◌, subst}
use Rattle.std.specs.Prelude.{IfOk}
use Rattle.types.specs.Commands.{Judged, judged_command}
use Rattle.types.specs.internal.CommandParts.{judged_arm}
use Rattle.types.specs.internal.Least.{least}
use Rattle.types.specs.internal.Owed.{guarded_arm, guard_owed, labelled_arm, labels_of}
use Rattle.types.specs.internal.Scopes.{scope_of}
use Rattle.types.specs.declared.tree.Arm.{Arm}
use Rattle.types.specs.declared.tree.Command.{Command}
use Rattle.types.proofs.Owed.{if_is, case_is}
use Rattle.types.proofs.Turns.{with_part, with_one, and_one, and_labels}
use Rattle.types.proofs.command.+settled_command.Goals as goal

pub settled_if-returns : goal.settled_if-returns
settled_if-returns t c =
    c.conditional.ensures
    ∙ if_is (scope_of c.args.scope.now) c.args.opened.now c.args.arms.now c.in_ok-arms.arms.arms c.in_ok-arms.arms.own c.args.last
    c.in_ok-arms.ensures.arms c.in_ok-arms.ensures.own

pub settled_case-returns : goal.settled_case-returns
settled_case-returns t c =
    let is = case_is (scope_of c.args.scope.now) c.args.opened.now c.args.arms.now c.in_ok-subject.subject _ c.width_of.result c.in_ok-arms.arms.arms c.in_ok-arms.arms.own c.args.last
    c.in_ok-subject.ensures c.width_of.ensures c.in_ok-arms.ensures.arms c.in_ok-arms.ensures.own in
    subst (λ owed. IfOk c.cased.result (λ made. made ≡ owed)) is c.cased.ensures

pub settled_commands-loop-command-preserved : goal.settled_commands-loop-command-preserved
settled_commands-loop-command-preserved t c =
    with_part c.args.commands.now c.loop-command.command-index c.command-item.result c.loop-command-test.true c.command-item.is
    (judged_command least) (λ (judged : Judged least Command). judged (scope_of c.args.scope.now) c.args.opened.now)
    c.loop-command.settled c.in_ok-settled.settled c.in_ok-next.next c.in_ok-next.ensures c.in_ok-settled.ensures
    ∙ c.loop-command.invariant

pub settled_arms-loop-arm-preserved : goal.settled_arms-loop-arm-preserved
settled_arms-loop-arm-preserved t c =
    with_part c.args.arms.now c.loop-arm.arm-index c.arm-item.result c.loop-arm-test.true c.arm-item.is
    (judged_arm least) (λ (judged : Judged least Arm). judged (scope_of c.args.scope.now) c.args.opened.now)
    c.loop-arm.settled c.in_ok-settled.settled c.in_ok-next.next c.in_ok-next.ensures c.in_ok-settled.ensures
    ∙ c.loop-arm.invariant

pub settled_guarded-loop-arm-preserved : goal.settled_guarded-loop-arm-preserved
settled_guarded-loop-arm-preserved t c =
    let scope = scope_of c.args.scope.now in
    let opened = c.args.opened.now in
    record {
      arms =
          with_one c.args.arms.now c.loop-arm.arm-index c.arm-item.result c.loop-arm-test.true c.arm-item.is (guarded_arm scope opened)
          c.loop-arm.settled c.in_ok-settled.settled c.in_ok-next.next c.in_ok-next.ensures.arm c.in_ok-settled.ensures
          ∙ c.loop-arm.invariant.arms;
      own =
          and_one c.args.arms.now c.loop-arm.arm-index c.arm-item.result c.loop-arm-test.true c.arm-item.is (guard_owed scope opened)
          c.loop-arm.own c.and-own.result c.in_ok-next.owed c.in_ok-next.ensures.own c.and-own.ensures
          ∙ c.loop-arm.invariant.own;
    }

pub labelled_behind-loop-arm-preserved : goal.labelled_behind-loop-arm-preserved
labelled_behind-loop-arm-preserved t c =
    let scope = scope_of c.args.scope.now in
    let opened = c.args.opened.now in
    record {
      arms =
          with_one c.args.arms.now c.loop-arm.arm-index c.arm-item.result c.loop-arm-test.true c.arm-item.is (labelled_arm scope opened)
          c.loop-arm.settled c.in_ok-settled.settled c.in_ok-next.next c.in_ok-next.ensures.arm c.in_ok-settled.ensures
          ∙ c.loop-arm.invariant.arms;
      own =
          and_labels c.args.arms.now c.loop-arm.arm-index c.arm-item.result c.loop-arm-test.true c.arm-item.is (labels_of scope opened)
          c.args.width c.loop-arm.seen.keys c.settled_labelled_arm.new.seen.keys c.loop-arm.own c.and-own.result c.in_ok-next.owed
          c.in_ok-next.ensures.own c.in_ok-next.ensures.seen c.and-own.ensures
          ∙ c.loop-arm.invariant.own;
    }
