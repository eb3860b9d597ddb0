-- Each call has less to do: a part of the command, or a procedure before it. What is made of parts is what is made of all.
use Rattle.std.proofs.Common.{◌≡◌, ◌≤◌, List, [], Option, length, map, arith, refl, sym, ◌∙◌, ap}
use Rattle.std.specs.Option.{option_map}
use Rattle.std.proofs.lemmas.Bool.Decides.{nat_tests}
use Rattle.elaborate.specs.internal.BodyParts.{maker_of_guarded, maker_of_labelled, maker_of_arm}
use Rattle.elaborate.specs.internal.Instances.{channel_use, expression_in}
use Rattle.elaborate.specs.internal.Makers.{WithMade, all_onto, around, arms_and_last, maker_of, makers}
use Rattle.system.specs.declared.command.Action.TheViews as action
use Rattle.system.specs.declared.command.Arm as tree_arm
use Rattle.system.specs.declared.command.Guarded as tree_guarded
use Rattle.system.specs.declared.command.Labelled as tree_labelled
use Rattle.system.specs.declared.command.Command.{Command}
use Rattle.elaborate.proofs.Weights.{weight, entered_weight, item_weight, arm_item, guarded_item, labelled_item}
use Rattle.elaborate.proofs.Calls.{goes_along, enters, ends}
use Rattle.elaborate.proofs.Parts.{part_more, parts_made, guarded_of_parts, guarded_left, labelled_of_parts, labelled_left, arm_of_parts, arm_left, continue_makes, halt_makes, assign_makes, send_makes, receive_makes, sync_makes, loop_makes, while_makes, input_makes, select_makes, arbitrate_makes, sequence_makes, parallel_makes, if_makes, case_makes, with_last, both_are, made_around, answers_tree, answers_made, told_tree, told_made}
use Rattle.elaborate.proofs.body.+body.Goals as goal

pub arms_of-command_of-requires : goal.arms_of-command_of-requires
arms_of-command_of-requires t c =
    let part = arm_item c.args.arms.now c.loop-arm.arm-index c.arm-item.result c.loop-arm-test.true c.arm-item.is in omega (arith, part, c.decreases)

pub guarded_of-command_of-requires : goal.guarded_of-command_of-requires
guarded_of-command_of-requires t c =
    let part = guarded_item c.args.arms.now c.loop-arm.arm-index c.arm-item.result c.loop-arm-test.true c.arm-item.is in omega (arith, part, c.decreases)

pub labelled_of-command_of-requires : goal.labelled_of-command_of-requires
labelled_of-command_of-requires t c =
    let part = labelled_item c.args.arms.now c.loop-arm.arm-index c.arm-item.result c.loop-arm-test.true c.arm-item.is in omega (arith, part, c.decreases)

pub commands_of-command_of-requires : goal.commands_of-command_of-requires
commands_of-command_of-requires t c =
    let part = item_weight weight c.args.commands.now c.loop-command.command-index c.command-item.result c.loop-command-test.true c.command-item.is in omega (arith, part, c.decreases)

pub called_body-loop-procedure-preserved : goal.called_body-loop-procedure-preserved
called_body-loop-procedure-preserved t c =
    let found = c.in-Some.ensures.lookup in
    let cur = c.loop-procedure.earlier.now in
    let p = c.in-Some.procedure.now in
    let weigh = entered_weight cur c.loop-procedure.called p found.3.0 found.1 in
    let inv = c.loop-procedure.invariant.less in
    record {
      less = omega (arith, weigh, inv);
      same = goes_along cur c.loop-procedure.called p c.in-Call.next c.in-Call.arguments c.loop-procedure.entrance c.loop-procedure.made
          c.in_ok-instance.instance c.instance.new.self c.in_ok-entrance-in-Call.entrance found.3.0 found.1
          (sym c.get-in-Some.ensures ∙ c.in-Call.is)
          (rw c.as_slice.ensures at c.in_ok-instance.ensures.instance)
          (rw c.as_slice.ensures at c.in_ok-instance.ensures.made)
          (rw c.as_slice-in-Call.ensures at c.in_ok-entrance-in-Call.ensures)
          ∙ c.loop-procedure.invariant.same;
    }

pub called_body-returns-in_default-get : goal.called_body-returns-in_default-get
called_body-returns-in_default-get t c =
    let found = c.in-Some.ensures.lookup in
    let e =
    enters c.loop-procedure.earlier.now c.loop-procedure.called c.in-Some.procedure.now c.loop-procedure.entrance c.loop-procedure.made
    c.in_ok-instance.instance c.instance.new.self c.command_of.new.made c.in_ok-body-in_default-get.body found.3.0 found.1
    (rw c.as_slice.ensures at c.in_ok-instance.ensures.instance)
    (rw c.as_slice.ensures at c.in_ok-instance.ensures.made)
    c.in_ok-body-in_default-get.ensures.tree c.in_ok-body-in_default-get.ensures.made
    ∙ c.loop-procedure.invariant.same in
    record { tree = ap (λ (r : WithMade Command). r.0) e; made = ap (λ (r : WithMade Command). r.1) e }

pub called_body-returns-clause-tree : goal.called_body-returns-clause-tree
called_body-returns-clause-tree t c =
    let h = c.in_default.ensures.lookup in
    let past : length c.loop-procedure.earlier.now ≤ c.loop-procedure.called = grind (arith, nat_tests, h) in
    let e = ends c.loop-procedure.earlier.now c.loop-procedure.called c.loop-procedure.entrance c.loop-procedure.made past ∙ c.loop-procedure.invariant.same in
    c.in_ok-nothing.ensures ∙ ap (λ (r : WithMade Command). r.0) e

pub called_body-returns-clause-made : goal.called_body-returns-clause-made
called_body-returns-clause-made t c =
    let h = c.in_default.ensures.lookup in
    let past : length c.loop-procedure.earlier.now ≤ c.loop-procedure.called = grind (arith, nat_tests, h) in
    let e = ends c.loop-procedure.earlier.now c.loop-procedure.called c.loop-procedure.entrance c.loop-procedure.made past ∙ c.loop-procedure.invariant.same in
    ap (λ (r : WithMade Command). r.1) e

pub called_body-command_of-requires : goal.called_body-command_of-requires
called_body-command_of-requires t c =
    let found = c.in-Some.ensures.lookup in
    let less = entered_weight c.loop-procedure.earlier.now c.loop-procedure.called c.in-Some.procedure.now found.3.0 found.1 in
    omega (arith, less, c.loop-procedure.invariant.less, c.decreases)

pub commands_of-loop-command-preserved : goal.commands_of-loop-command-preserved
commands_of-loop-command-preserved t c =
    part_more (maker_of (makers c.args.earlier.now)) c.args.commands.now c.loop-command.command-index c.args.instance.now c.command-item.result
    c.loop-command.children c.push.new.self c.in_ok-command_of.field-0 c.loop-command.made c.command_of.new.made
    c.loop-command-test.true c.command-item.is c.in_ok-command_of.ensures.tree c.in_ok-command_of.ensures.made c.in_ok-push.ensures.ok
    ∙ c.loop-command.invariant

pub commands_of-returns : goal.commands_of-returns
commands_of-returns t c =
    let all =
    parts_made (maker_of (makers c.args.earlier.now)) c.args.commands.now c.loop-command.command-index c.args.instance.now c.loop-command.children c.loop-command.made _
    c.loop-command-test.false c.loop-command.invariant in
    record { tree = ap (λ (r : WithMade (List Command)). r.0) all; made = ap (λ (r : WithMade (List Command)). r.1) all }

pub guarded_of-loop-arm-preserved : goal.guarded_of-loop-arm-preserved
guarded_of-loop-arm-preserved t c =
    let ps = makers c.args.earlier.now in
    let instance = c.args.instance.now in
    let made = c.loop-arm.made in
    let arm = c.arm-item.result in
    part_more (maker_of_guarded ps) c.args.arms.now c.loop-arm.arm-index instance arm
    c.loop-arm.children c.push.new.self (record { guard = c.in_ok-guard.guard; body = c.in_ok-body.body }) made c.command_of.new.made
    c.loop-arm-test.true c.arm-item.is
    (guarded_of_parts ps instance made arm c.in_ok-guard.guard c.in_ok-body.body c.in_ok-guard.ensures c.in_ok-body.ensures.tree)
    (guarded_left ps instance made arm c.command_of.new.made c.in_ok-body.ensures.made) c.in_ok-push.ensures.ok
    ∙ c.loop-arm.invariant

pub guarded_of-returns : goal.guarded_of-returns
guarded_of-returns t c =
    let all =
    parts_made (maker_of_guarded (makers c.args.earlier.now)) c.args.arms.now c.loop-arm.arm-index c.args.instance.now c.loop-arm.children c.loop-arm.made _
    c.loop-arm-test.false c.loop-arm.invariant in
    record { tree = ap (λ (r : WithMade (List tree_guarded.Guarded)). r.0) all; made = ap (λ (r : WithMade (List tree_guarded.Guarded)). r.1) all }

pub labelled_of-loop-arm-preserved : goal.labelled_of-loop-arm-preserved
labelled_of-loop-arm-preserved t c =
    let ps = makers c.args.earlier.now in
    let instance = c.args.instance.now in
    let made = c.loop-arm.made in
    let arm = c.arm-item.result in
    let labels : c.from_vec-labels.result ≡ arm.labels = c.from_vec-labels.ensures ∙ c.in_ok-from_slice.ensures.items ∙ c.as_slice.ensures in
    part_more (maker_of_labelled ps) c.args.arms.now c.loop-arm.arm-index instance arm
    c.loop-arm.children c.push.new.self (record { labels = c.from_vec-labels.result; body = c.in_ok-body.body }) made c.command_of.new.made
    c.loop-arm-test.true c.arm-item.is
    (labelled_of_parts ps instance made arm c.from_vec-labels.result c.in_ok-body.body labels c.in_ok-body.ensures.tree)
    (labelled_left ps instance made arm c.command_of.new.made c.in_ok-body.ensures.made) c.in_ok-push.ensures.ok
    ∙ c.loop-arm.invariant

pub labelled_of-returns : goal.labelled_of-returns
labelled_of-returns t c =
    let all =
    parts_made (maker_of_labelled (makers c.args.earlier.now)) c.args.arms.now c.loop-arm.arm-index c.args.instance.now c.loop-arm.children c.loop-arm.made _
    c.loop-arm-test.false c.loop-arm.invariant in
    record { tree = ap (λ (r : WithMade (List tree_labelled.Labelled)). r.0) all; made = ap (λ (r : WithMade (List tree_labelled.Labelled)). r.1) all }

pub arms_of-loop-arm-preserved : goal.arms_of-loop-arm-preserved
arms_of-loop-arm-preserved t c =
    let ps = makers c.args.earlier.now in
    let instance = c.args.instance.now in
    let made = c.loop-arm.made in
    let arm = c.arm-item.result in
    part_more (maker_of_arm ps) c.args.arms.now c.loop-arm.arm-index instance arm
    c.loop-arm.children c.push.new.self (record { channel = c.channel_use-channel.result; body = c.in_ok-body.body }) made c.command_of.new.made
    c.loop-arm-test.true c.arm-item.is
    (arm_of_parts ps instance made arm c.channel_use-channel.result c.in_ok-body.body c.channel_use-channel.ensures c.in_ok-body.ensures.tree)
    (arm_left ps instance made arm c.command_of.new.made c.in_ok-body.ensures.made) c.in_ok-push.ensures.ok
    ∙ c.loop-arm.invariant

pub arms_of-returns : goal.arms_of-returns
arms_of-returns t c =
    let all =
    parts_made (maker_of_arm (makers c.args.earlier.now)) c.args.arms.now c.loop-arm.arm-index c.args.instance.now c.loop-arm.children c.loop-arm.made _
    c.loop-arm-test.false c.loop-arm.invariant in
    record { tree = ap (λ (r : WithMade (List tree_arm.Arm)). r.0) all; made = ap (λ (r : WithMade (List tree_arm.Arm)). r.1) all }

pub loop_of-returns : goal.loop_of-returns
loop_of-returns t c =
    let r = maker_of (makers c.args.earlier.now) c.args.inside.now c.args.instance.now c.args.made.now in
    let is =
    made_around c.args.line action.Loop c.in_ok-inside.inside c.command_of.new.made r (around c.args.line action.Loop r)
    (both_are c.in_ok-inside.inside c.command_of.new.made r c.in_ok-inside.ensures.tree c.in_ok-inside.ensures.made) refl in
    record { tree = answers_tree c.loop_command.result _ _ _ is c.loop_command.ensures; made = answers_made c.loop_command.result _ _ _ is }

pub sequence_of-returns : goal.sequence_of-returns
sequence_of-returns t c =
    let r = all_onto [] (map (maker_of (makers c.args.earlier.now)) c.args.children.now) c.args.instance.now c.args.made.now in
    let is =
    made_around c.args.line action.Sequence c.in_ok-children.children c.commands_of.new.made r (around c.args.line action.Sequence r)
    (both_are c.in_ok-children.children c.commands_of.new.made r c.in_ok-children.ensures.tree c.in_ok-children.ensures.made) refl in
    record { tree = answers_tree c.sequence_command.result _ _ _ is c.sequence_command.ensures; made = answers_made c.sequence_command.result _ _ _ is }

pub parallel_of-returns : goal.parallel_of-returns
parallel_of-returns t c =
    let r = all_onto [] (map (maker_of (makers c.args.earlier.now)) c.args.children.now) c.args.instance.now c.args.made.now in
    let is =
    made_around c.args.line action.Parallel c.in_ok-children.children c.commands_of.new.made r (around c.args.line action.Parallel r)
    (both_are c.in_ok-children.children c.commands_of.new.made r c.in_ok-children.ensures.tree c.in_ok-children.ensures.made) refl in
    record { tree = answers_tree c.parallel_command.result _ _ _ is c.parallel_command.ensures; made = answers_made c.parallel_command.result _ _ _ is }

pub command_of-returns-in-Loop : goal.command_of-returns-in-Loop
command_of-returns-in-Loop t c =
    let is = loop_makes (makers c.args.earlier.now) c.args.command.now c.args.instance.now c.args.made.now c.in-Loop.body (sym c.get.ensures ∙ c.in-Loop.is) in
    record { tree = told_tree c.loop_of.result _ _ is c.loop_of.ensures.tree; made = told_made c.loop_of.result c.loop_of.new.made _ _ is c.loop_of.ensures.made }

pub command_of-returns-in-Sequence : goal.command_of-returns-in-Sequence
command_of-returns-in-Sequence t c =
    let is = sequence_makes (makers c.args.earlier.now) c.args.command.now c.args.instance.now c.args.made.now c.in-Sequence.children (sym c.get.ensures ∙ c.in-Sequence.is) in
    record { tree = told_tree c.sequence_of.result _ _ is (rw c.as_slice-in-Sequence.ensures at c.sequence_of.ensures.tree); made = told_made c.sequence_of.result c.sequence_of.new.made _ _ is (rw c.as_slice-in-Sequence.ensures at c.sequence_of.ensures.made) }

pub command_of-returns-in-Parallel : goal.command_of-returns-in-Parallel
command_of-returns-in-Parallel t c =
    let is = parallel_makes (makers c.args.earlier.now) c.args.command.now c.args.instance.now c.args.made.now c.in-Parallel.children (sym c.get.ensures ∙ c.in-Parallel.is) in
    record { tree = told_tree c.parallel_of.result _ _ is (rw c.as_slice-in-Parallel.ensures at c.parallel_of.ensures.tree); made = told_made c.parallel_of.result c.parallel_of.new.made _ _ is (rw c.as_slice-in-Parallel.ensures at c.parallel_of.ensures.made) }

pub while_of-returns : goal.while_of-returns
while_of-returns t c =
    let r = maker_of (makers c.args.earlier.now) c.args.inside.now c.args.instance.now c.args.made.now in
    let f = action.While (expression_in c.args.instance.now c.args.guard.now) in
    let is =
    made_around c.args.line f c.in_ok-inside.inside c.command_of.new.made r (around c.args.line f r)
    (both_are c.in_ok-inside.inside c.command_of.new.made r c.in_ok-inside.ensures.tree c.in_ok-inside.ensures.made) refl in
    record { tree = answers_tree c.while_command.result _ _ _ is c.while_command.ensures; made = answers_made c.while_command.result _ _ _ is }

pub input_of-returns : goal.input_of-returns
input_of-returns t c =
    let r = maker_of (makers c.args.earlier.now) c.args.inside.now c.args.instance.now c.args.made.now in
    let f = action.Input (channel_use c.args.instance.now c.args.channel) in
    let is =
    made_around c.args.line f c.in_ok-inside.inside c.command_of.new.made r (around c.args.line f r)
    (both_are c.in_ok-inside.inside c.command_of.new.made r c.in_ok-inside.ensures.tree c.in_ok-inside.ensures.made) refl in
    record { tree = answers_tree c.input_command.result _ _ _ is c.input_command.ensures; made = answers_made c.input_command.result _ _ _ is }

pub select_of-returns : goal.select_of-returns
select_of-returns t c =
    let r = all_onto [] (map (maker_of_arm (makers c.args.earlier.now)) c.args.arms.now) c.args.instance.now c.args.made.now in
    let is =
    made_around c.args.line action.Select c.in_ok-arms.arms c.arms_of.new.made r (around c.args.line action.Select r)
    (both_are c.in_ok-arms.arms c.arms_of.new.made r c.in_ok-arms.ensures.tree c.in_ok-arms.ensures.made) refl in
    record { tree = answers_tree c.select_command.result _ _ _ is c.select_command.ensures; made = answers_made c.select_command.result _ _ _ is }

pub arbitrate_of-returns : goal.arbitrate_of-returns
arbitrate_of-returns t c =
    let r = all_onto [] (map (maker_of_arm (makers c.args.earlier.now)) c.args.arms.now) c.args.instance.now c.args.made.now in
    let is =
    made_around c.args.line action.Arbitrate c.in_ok-arms.arms c.arms_of.new.made r (around c.args.line action.Arbitrate r)
    (both_are c.in_ok-arms.arms c.arms_of.new.made r c.in_ok-arms.ensures.tree c.in_ok-arms.ensures.made) refl in
    record { tree = answers_tree c.arbitrate_command.result _ _ _ is c.arbitrate_command.ensures; made = answers_made c.arbitrate_command.result _ _ _ is }

pub if_of-returns : goal.if_of-returns
if_of-returns t c =
    let ps = makers c.args.earlier.now in
    let arms = map (maker_of_guarded ps) c.args.arms.now in
    let last = option_map (maker_of ps) c.args.last.now in
    let r = arms_and_last arms last c.args.instance.now c.args.made.now in
    let parts =
    with_last arms last c.args.instance.now c.args.made.now c.guarded_of.new.made c.last_of.new.made c.in_ok-arms.arms c.in_ok-last.last
    c.in_ok-arms.ensures.tree c.in_ok-arms.ensures.made c.in_ok-last.ensures.tree c.in_ok-last.ensures.made in
    let is =
    made_around {X = List tree_guarded.Guarded × Option Command} c.args.line (λ r. action.If r.0 r.1) (c.in_ok-arms.arms, c.in_ok-last.last) c.last_of.new.made
    r (around c.args.line (λ r. action.If r.0 r.1) r) parts refl in
    record { tree = answers_tree c.if_command.result _ _ _ is c.if_command.ensures; made = answers_made c.if_command.result _ _ _ is }

pub case_of-returns : goal.case_of-returns
case_of-returns t c =
    let ps = makers c.args.earlier.now in
    let arms = map (maker_of_labelled ps) c.args.arms.now in
    let last = option_map (maker_of ps) c.args.last.now in
    let r = arms_and_last arms last c.args.instance.now c.args.made.now in
    let parts =
    with_last arms last c.args.instance.now c.args.made.now c.labelled_of.new.made c.last_of.new.made c.in_ok-arms.arms c.in_ok-last.last
    c.in_ok-arms.ensures.tree c.in_ok-arms.ensures.made c.in_ok-last.ensures.tree c.in_ok-last.ensures.made in
    let is =
    made_around {X = List tree_labelled.Labelled × Option Command} c.args.line (λ r. action.Case (expression_in c.args.instance.now c.args.subject.now) r.0 r.1) (c.in_ok-arms.arms, c.in_ok-last.last) c.last_of.new.made
    r (around c.args.line (λ r. action.Case (expression_in c.args.instance.now c.args.subject.now) r.0 r.1) r) parts refl in
    record { tree = answers_tree c.case_command.result _ _ _ is c.case_command.ensures; made = answers_made c.case_command.result _ _ _ is }

pub command_of-returns-in-While : goal.command_of-returns-in-While
command_of-returns-in-While t c =
    let is = while_makes (makers c.args.earlier.now) c.args.command.now c.args.instance.now c.args.made.now c.in-While.guard c.in-While.body (sym c.get.ensures ∙ c.in-While.is) in
    record { tree = told_tree c.while_of.result _ _ is c.while_of.ensures.tree; made = told_made c.while_of.result c.while_of.new.made _ _ is c.while_of.ensures.made }

pub command_of-returns-in-Input : goal.command_of-returns-in-Input
command_of-returns-in-Input t c =
    let is = input_makes (makers c.args.earlier.now) c.args.command.now c.args.instance.now c.args.made.now c.in-Input.channel c.in-Input.body (sym c.get.ensures ∙ c.in-Input.is) in
    record { tree = told_tree c.input_of.result _ _ is c.input_of.ensures.tree; made = told_made c.input_of.result c.input_of.new.made _ _ is c.input_of.ensures.made }

pub command_of-returns-in-Select : goal.command_of-returns-in-Select
command_of-returns-in-Select t c =
    let is = select_makes (makers c.args.earlier.now) c.args.command.now c.args.instance.now c.args.made.now c.in-Select.arms (sym c.get.ensures ∙ c.in-Select.is) in
    record { tree = told_tree c.select_of.result _ _ is (rw c.as_slice-in-Select.ensures at c.select_of.ensures.tree); made = told_made c.select_of.result c.select_of.new.made _ _ is (rw c.as_slice-in-Select.ensures at c.select_of.ensures.made) }

pub command_of-returns-in-Arbitrate : goal.command_of-returns-in-Arbitrate
command_of-returns-in-Arbitrate t c =
    let is = arbitrate_makes (makers c.args.earlier.now) c.args.command.now c.args.instance.now c.args.made.now c.in-Arbitrate.arms (sym c.get.ensures ∙ c.in-Arbitrate.is) in
    record { tree = told_tree c.arbitrate_of.result _ _ is (rw c.as_slice-in-Arbitrate.ensures at c.arbitrate_of.ensures.tree); made = told_made c.arbitrate_of.result c.arbitrate_of.new.made _ _ is (rw c.as_slice-in-Arbitrate.ensures at c.arbitrate_of.ensures.made) }

pub command_of-returns-in-If : goal.command_of-returns-in-If
command_of-returns-in-If t c =
    let is = if_makes (makers c.args.earlier.now) c.args.command.now c.args.instance.now c.args.made.now c.in-If.arms c.in-If.last (sym c.get.ensures ∙ c.in-If.is) in
    record { tree = told_tree c.if_of.result _ _ is (rw c.as_slice-in-If.ensures at c.if_of.ensures.tree); made = told_made c.if_of.result c.if_of.new.made _ _ is (rw c.as_slice-in-If.ensures at c.if_of.ensures.made) }

pub command_of-returns-in-Case : goal.command_of-returns-in-Case
command_of-returns-in-Case t c =
    let is = case_makes (makers c.args.earlier.now) c.args.command.now c.args.instance.now c.args.made.now c.in-Case.subject c.in-Case.arms c.in-Case.last (sym c.get.ensures ∙ c.in-Case.is) in
    record { tree = told_tree c.case_of.result _ _ is (rw (c.as_slice-arms.ensures, c.get-subject.ensures) at c.case_of.ensures.tree); made = told_made c.case_of.result c.case_of.new.made _ _ is (rw c.as_slice-arms.ensures at c.case_of.ensures.made) }

pub command_of-returns-in-Continue : goal.command_of-returns-in-Continue
command_of-returns-in-Continue t c =
    let is = continue_makes (makers c.args.earlier.now) c.args.command.now c.args.instance.now c.args.made.now (sym c.get.ensures ∙ c.in-Continue.is) in
    record { tree = answers_tree c.continue_command.result _ _ _ is c.continue_command.ensures; made = answers_made c.continue_command.result _ _ _ is }

pub command_of-returns-in-Halt : goal.command_of-returns-in-Halt
command_of-returns-in-Halt t c =
    let is = halt_makes (makers c.args.earlier.now) c.args.command.now c.args.instance.now c.args.made.now (sym c.get.ensures ∙ c.in-Halt.is) in
    record { tree = answers_tree c.halt_command.result _ _ _ is c.halt_command.ensures; made = answers_made c.halt_command.result _ _ _ is }

pub command_of-returns-in-Assign : goal.command_of-returns-in-Assign
command_of-returns-in-Assign t c =
    let is = assign_makes (makers c.args.earlier.now) c.args.command.now c.args.instance.now c.args.made.now c.in-Assign.variable c.in-Assign.width c.in-Assign.value (sym c.get.ensures ∙ c.in-Assign.is) in
    record { tree = answers_tree c.assign_command.result _ _ _ is c.assign_command.ensures; made = answers_made c.assign_command.result _ _ _ is }

pub command_of-returns-in-Send : goal.command_of-returns-in-Send
command_of-returns-in-Send t c =
    let is = send_makes (makers c.args.earlier.now) c.args.command.now c.args.instance.now c.args.made.now c.in-Send.channel c.in-Send.width c.in-Send.value (sym c.get.ensures ∙ c.in-Send.is) in
    record { tree = answers_tree c.send_command.result _ _ _ is c.send_command.ensures; made = answers_made c.send_command.result _ _ _ is }

pub command_of-returns-in-Receive : goal.command_of-returns-in-Receive
command_of-returns-in-Receive t c =
    let is = receive_makes (makers c.args.earlier.now) c.args.command.now c.args.instance.now c.args.made.now c.in-Receive.channel c.in-Receive.variable (sym c.get.ensures ∙ c.in-Receive.is) in
    record { tree = answers_tree c.receive_command.result _ _ _ is c.receive_command.ensures; made = answers_made c.receive_command.result _ _ _ is }

pub command_of-returns-in-Sync : goal.command_of-returns-in-Sync
command_of-returns-in-Sync t c =
    let is = sync_makes (makers c.args.earlier.now) c.args.command.now c.args.instance.now c.args.made.now c.in-Sync.channel (sym c.get.ensures ∙ c.in-Sync.is) in
    record { tree = answers_tree c.sync_command.result _ _ _ is c.sync_command.ensures; made = answers_made c.sync_command.result _ _ _ is }
