-- What the table says after a command is what the command's residual amounts to.
use Rattle.std.proofs.Common.{◌≡◌, ◌⊎◌, inl, inr, [], ◌∷◌, map, OnOk, sym, ap, ◌∙◌, subst, rules}
use Rattle.std.specs.Option.{option_map}
use Rattle.value.specs.declared.width.Width.{Width}
use Rattle.system.specs.declared.command.Action as action
use Rattle.system.specs.declared.command.Action.{Action}
use Rattle.system.specs.declared.command.Action.TheFolds.{the_lemmas}
use Rattle.system.specs.declared.command.Command.{Command}
use Rattle.system.specs.declared.expression.Expression.{Expression}
use Rattle.system.specs.declared.expression.Use.{Use}
use Rattle.system.specs.Residual as residual
use Rattle.system.specs.Translation.{expression_of, residual_of, in_sequence, in_parallel, if_of, case_of, choose_of}
use Rattle.system.specs.internal.ArmParts.{guarded_of, labelled_of, arm_of}
use Rattle.sharing_check.specs.declared.widths.Together.TheVariants.{InOneBranch}
use Rattle.sharing_check.specs.internal.Counting.{Table, nothing, table_of_widths, join, adding, in_turn, last_in_turn, arms_in_turn, receive, side_by_side, uses}
use Rattle.sharing_check.proofs.CountParts.{used_by_send, used_by_receive, used_by_sync, adding_test, adding_input, adding_sequence, used_by_parallel, adding_done, adding_halted, adding_assign, adding_choose, used_by_loop, used_by_while}
use Rattle.sharing_check.proofs.Turns.{counted_more, body_more, opened_more, branch_more, guarded_body, labelled_body, arm_body, arm_channel}
use Rattle.sharing_check.proofs.widths.+widths.Goals as goal

-- a command that uses no channel
idle : (t : Table) (command : Command) (a : Action) → a ≡ command.action
    → (a ≡ action.Continue) ⊎ ((a ≡ action.Halt) ⊎ ((x : Use) × (w : Width) × (e : Expression) × (a ≡ action.Assign x w e)))
    → t ≡ adding t (residual_of command)
idle t command a of (inl e) =
    let is : residual_of command ≡ residual.done = search (rules, the_lemmas) in
    sym (ap (λ r. adding t r) is ∙ adding_done t)
idle t command a of (inr (inl e)) =
    let is : residual_of command ≡ residual.halted = search (rules, the_lemmas) in
    sym (ap (λ r. adding t r) is ∙ adding_halted t)
idle t command a of (inr (inr (x, w, v, e))) =
    let is : residual_of command ≡ residual.assign x.number w (expression_of v) = search (rules, the_lemmas) in
    sym (ap (λ r. adding t r) is ∙ adding_assign t x.number w (expression_of v))

pub add_command-returns-in-Continue : goal.add_command-returns-in-Continue
add_command-returns-in-Continue t c = idle (table_of_widths c.args.widths.now) c.args.command.now c.get.result.now c.get.ensures c.in-Continue.is

pub add_command-returns-in-Continue-2 : goal.add_command-returns-in-Continue-2
add_command-returns-in-Continue-2 t c = idle (table_of_widths c.args.widths.now) c.args.command.now c.get.result.now c.get.ensures c.in-Continue.is

pub add_command-returns-in-Continue-3 : goal.add_command-returns-in-Continue-3
add_command-returns-in-Continue-3 t c = idle (table_of_widths c.args.widths.now) c.args.command.now c.get.result.now c.get.ensures c.in-Continue.is

pub add_command-returns-in-Send : goal.add_command-returns-in-Send
add_command-returns-in-Send t c =
    let before = table_of_widths c.args.widths.now in
    let is : residual_of c.args.command.now ≡ residual.send c.in-Send.channel.number c.in-Send.field-1 (expression_of c.in-Send.field-2) = search (rules, the_lemmas) in
    subst (λ t. OnOk c.add.result (table_of_widths c.add.new.self ≡ t))
    (sym (ap (λ r. adding before r) is ∙ ap (join InOneBranch before) (used_by_send c.in-Send.channel.number c.in-Send.field-1 (expression_of c.in-Send.field-2))))
    c.add.ensures

pub add_command-returns-in-Receive : goal.add_command-returns-in-Receive
add_command-returns-in-Receive t c =
    let before = table_of_widths c.args.widths.now in
    let is : residual_of c.args.command.now ≡ residual.receive c.in-Receive.channel.number c.in-Receive.field-1.number = search (rules, the_lemmas) in
    subst (λ t. OnOk c.add-in-Receive.result (table_of_widths c.add-in-Receive.new.self ≡ t))
    (sym (ap (λ r. adding before r) is ∙ ap (join InOneBranch before) (used_by_receive c.in-Receive.channel.number c.in-Receive.field-1.number)))
    c.add-in-Receive.ensures

pub add_command-returns-in-Sync : goal.add_command-returns-in-Sync
add_command-returns-in-Sync t c =
    let before = table_of_widths c.args.widths.now in
    let is : residual_of c.args.command.now ≡ residual.sync c.in-Sync.channel.number = search (rules, the_lemmas) in
    subst (λ t. OnOk c.add-in-Sync.result (table_of_widths c.add-in-Sync.new.self ≡ t))
    (sym (ap (λ r. adding before r) is ∙ ap (join InOneBranch before) (used_by_sync c.in-Sync.channel.number)))
    c.add-in-Sync.ensures

pub add_command-returns-in-Loop : goal.add_command-returns-in-Loop
add_command-returns-in-Loop t c =
    let before = table_of_widths c.args.widths.now in
    let is : residual_of c.args.command.now ≡ residual.loop 0 (residual_of c.in-Loop.body) = search (rules, the_lemmas) in
    subst (λ t. OnOk c.add_command.result (table_of_widths c.add_command.new.widths ≡ t))
    (sym (ap (λ r. adding before r) is ∙ ap (join InOneBranch before) (used_by_loop 0 (residual_of c.in-Loop.body))))
    c.add_command.ensures

pub add_command-returns-in-While : goal.add_command-returns-in-While
add_command-returns-in-While t c =
    let before = table_of_widths c.args.widths.now in
    let is : residual_of c.args.command.now ≡ residual.while 0 (expression_of c.in-While.field-0) (residual_of c.in-While.body) = search (rules, the_lemmas) in
    subst (λ t. OnOk c.add_command-in-While.result (table_of_widths c.add_command-in-While.new.widths ≡ t))
    (sym (ap (λ r. adding before r) is ∙ ap (join InOneBranch before) (used_by_while 0 (expression_of c.in-While.field-0) (residual_of c.in-While.body))))
    c.add_command-in-While.ensures

pub add_command-returns-in_ok-add_guarded-in-If : goal.add_command-returns-in_ok-add_guarded-in-If
add_command-returns-in_ok-add_guarded-in-If t c =
    let before = table_of_widths c.args.widths.now in
    let arms = map guarded_of c.in-If.arms in
    let last = option_map residual_of c.in-If.last in
    let is : residual_of c.args.command.now ≡ if_of arms last = search (rules, the_lemmas) in
    subst (λ t. OnOk c.add_last.result (table_of_widths c.add_last.new.widths ≡ t))
    (ap (λ t. last_in_turn t last)
    (c.in_ok-add_guarded-in-If.ensures ∙ ap (λ gs. in_turn before (map (λ a. a.body) (map guarded_of gs))) c.as_slice.ensures)
    ∙ sym (ap (λ r. adding before r) is ∙ adding_test before _ (map (λ a. a.body) arms) last))
    c.add_last.ensures

pub add_command-returns-in_ok-add_labelled-in-Case : goal.add_command-returns-in_ok-add_labelled-in-Case
add_command-returns-in_ok-add_labelled-in-Case t c =
    let before = table_of_widths c.args.widths.now in
    let arms = map labelled_of c.in-Case.arms in
    let last = option_map residual_of c.in-Case.last in
    let is : residual_of c.args.command.now ≡ case_of (expression_of c.in-Case.field-0) arms last = search (rules, the_lemmas) in
    subst (λ t. OnOk c.add_last-in-Case.result (table_of_widths c.add_last-in-Case.new.widths ≡ t))
    (ap (λ t. last_in_turn t last)
    (c.in_ok-add_labelled-in-Case.ensures ∙ ap (λ ls. in_turn before (map (λ a. a.body) (map labelled_of ls))) c.as_slice-in-Case.ensures)
    ∙ sym (ap (λ r. adding before r) is ∙ adding_test before _ (map (λ a. a.body) arms) last))
    c.add_last-in-Case.ensures

pub add_command-returns-in_ok-add-in-Input : goal.add_command-returns-in_ok-add-in-Input
add_command-returns-in_ok-add-in-Input t c =
    let before = table_of_widths c.args.widths.now in
    let channel = c.in-Input.channel.number in
    let body = residual_of c.in-Input.body in
    let is : residual_of c.args.command.now ≡ residual.choose (channel ∷ []) (residual.arm body residual.no_arms) = search (rules, the_lemmas) in
    subst (λ t. OnOk c.add_command-in-Input.result (table_of_widths c.add_command-in-Input.new.widths ≡ t))
    (ap (λ t. adding t body) c.in_ok-add-in-Input.ensures ∙ sym (ap (λ r. adding before r) is ∙ adding_input before channel body))
    c.add_command-in-Input.ensures

pub add_command-returns-in-Select : goal.add_command-returns-in-Select
add_command-returns-in-Select t c =
    let before = table_of_widths c.args.widths.now in
    let is : residual_of c.args.command.now ≡ choose_of (map arm_of c.in-Select.arms) = search (rules, the_lemmas) in
    subst (λ t. OnOk c.add_arms.result (table_of_widths c.add_arms.new.widths ≡ t))
    (ap (λ ws. arms_in_turn before (map arm_of ws)) c.as_slice-in-Select.ensures
    ∙ sym (ap (λ r. adding before r) is ∙ adding_choose before (map arm_of c.in-Select.arms)))
    c.add_arms.ensures

pub add_command-returns-in-Sequence : goal.add_command-returns-in-Sequence
add_command-returns-in-Sequence t c =
    let before = table_of_widths c.args.widths.now in
    let children = map residual_of c.in-Sequence.children in
    let is : residual_of c.args.command.now ≡ in_sequence 0 children = search (rules, the_lemmas) in
    subst (λ t. OnOk c.add_commands.result (table_of_widths c.add_commands.new.widths ≡ t))
    (ap (λ cs. in_turn before (map residual_of cs)) c.as_slice-in-Sequence.ensures
    ∙ sym (ap (λ r. adding before r) is ∙ adding_sequence before 0 children))
    c.add_commands.ensures

pub add_command-returns-in-Parallel : goal.add_command-returns-in-Parallel
add_command-returns-in-Parallel t c =
    let before = table_of_widths c.args.widths.now in
    let children = map residual_of c.in-Parallel.children in
    let is : residual_of c.args.command.now ≡ in_parallel 0 children = search (rules, the_lemmas) in
    subst (λ t. OnOk c.add_parallel.result (table_of_widths c.add_parallel.new.widths ≡ t))
    (ap (join InOneBranch before)
    (ap (λ cs. side_by_side nothing (map residual_of cs)) c.as_slice-in-Parallel.ensures ∙ sym (used_by_parallel 0 children))
    ∙ sym (ap (λ r. adding before r) is))
    c.add_parallel.ensures

pub add_parallel-returns : goal.add_parallel-returns
add_parallel-returns t c =
    subst (λ t. OnOk c.merge.result (table_of_widths c.merge.new.self ≡ t))
    (ap (join InOneBranch (table_of_widths c.args.widths.now)) c.in_ok-branches.ensures)
    c.merge.ensures.merged

pub add_commands-loop-command-preserved : goal.add_commands-loop-command-preserved
add_commands-loop-command-preserved t c =
    counted_more c.args.commands.now c.loop-command.command-index c.command-item.result c.loop-command-test.true c.command-item.is
    residual_of (table_of_widths c.loop-command.widths) (table_of_widths c.add_command.new.widths) c.in_ok-add_command.ensures
    ∙ c.loop-command.invariant

pub add_guarded-loop-arm-preserved : goal.add_guarded-loop-arm-preserved
add_guarded-loop-arm-preserved t c =
    let before = table_of_widths c.loop-arm.widths in
    body_more c.args.arms.now c.loop-arm.arm-index c.arm-item.result c.loop-arm-test.true c.arm-item.is
    guarded_of (λ a. a.body) before (table_of_widths c.add_command.new.widths)
    (c.in_ok-add_command.ensures ∙ ap (adding before) (guarded_body c.arm-item.result))
    ∙ c.loop-arm.invariant

pub add_labelled-loop-arm-preserved : goal.add_labelled-loop-arm-preserved
add_labelled-loop-arm-preserved t c =
    let before = table_of_widths c.loop-arm.widths in
    body_more c.args.arms.now c.loop-arm.arm-index c.arm-item.result c.loop-arm-test.true c.arm-item.is
    labelled_of (λ a. a.body) before (table_of_widths c.add_command.new.widths)
    (c.in_ok-add_command.ensures ∙ ap (adding before) (labelled_body c.arm-item.result))
    ∙ c.loop-arm.invariant

pub add_arms-loop-arm-preserved : goal.add_arms-loop-arm-preserved
add_arms-loop-arm-preserved t c =
    let before = table_of_widths c.loop-arm.widths in
    let opened = table_of_widths c.add.new.self in
    opened_more c.args.arms.now c.loop-arm.arm-index c.arm-item.result c.loop-arm-test.true c.arm-item.is
    arm_of before opened (table_of_widths c.add_command.new.widths)
    (c.in_ok-add.ensures ∙ ap (λ channel. join InOneBranch before (uses channel receive)) (arm_channel c.arm-item.result))
    (c.in_ok-add_command.ensures ∙ ap (adding opened) (arm_body c.arm-item.result))
    ∙ c.loop-arm.invariant

pub add_branches-loop-child-preserved : goal.add_branches-loop-child-preserved
add_branches-loop-child-preserved t c = record {
  both =
      branch_more c.args.children.now c.loop-child.child-index c.child-item.result c.loop-child-test.true c.child-item.is
      residual_of (table_of_widths c.loop-child.widths) (table_of_widths c.put_command.new.widths) (table_of_widths c.merge.new.self)
      c.in_ok-put_command.ensures c.in_ok-merge.ensures.merged
      ∙ c.loop-child.invariant.both;
  empty = c.in_ok-merge.ensures.emptied;
}
