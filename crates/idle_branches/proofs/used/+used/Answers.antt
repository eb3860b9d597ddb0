-- What is added for a command fits what it is to do.
use Rattle.std.proofs.Common.{◌≡◌, ℕ, Option, ◌<◌, ◌≤◌, ap, [], ◌∷◌, List, length, map, OnOk, sym, subst, arith, rules}
use Rattle.std.specs.Option.{option_map}
use Rattle.system.specs.declared.command.Action.TheFolds.{the_lemmas}
use Rattle.system.specs.declared.command.Arm.{Arm}
use Rattle.system.specs.declared.command.Command.{Command}
use Rattle.system.specs.declared.command.Guarded.{Guarded}
use Rattle.system.specs.declared.command.Labelled.{Labelled}
use Rattle.system.specs.Residual as residual
use Rattle.system.specs.Residual.{Residual}
use Rattle.system.specs.Translation.{expression_of, residual_of, in_sequence, in_parallel, if_of, case_of, choose_of}
use Rattle.system.specs.internal.ArmParts.{guarded_of, labelled_of, arm_of}
use Rattle.idle_branches.specs.internal.Known.{Acts, Fits}
use Rattle.idle_branches.specs.internal.Gathering.{Adds, FitsAll, FitsArm, FitsEachArm, FitsLast}
use Rattle.idle_branches.proofs.GatherLemmas.{all-done, all-on, here-of, two-done, two-on, adds-both, adds-map, arms-fit, choose-fits, on-ok, parallel-fits, sequence-fits}
use Rattle.idle_branches.proofs.used.+used.Goals as goal

pub add_command-returns-in-Receive : goal.add_command-returns-in-Receive
add_command-returns-in-Receive t c =
    let is : residual_of c.args.command.now ≡ residual.receive c.in-Receive.channel.number c.in-Receive.field-1.number = search (rules, the_lemmas) in
    subst (λ (r : Residual). OnOk c.add_act.result (Adds c.args.branch c.args.used.now (λ u. Fits u r) c.add_act.new.self)) (sym is) c.add_act.ensures

pub add_command-returns-in-Sync : goal.add_command-returns-in-Sync
add_command-returns-in-Sync t c =
    let is : residual_of c.args.command.now ≡ residual.sync c.in-Sync.channel.number = search (rules, the_lemmas) in
    subst (λ (r : Residual). OnOk c.add_both.result (Adds c.args.branch c.args.used.now (λ u. Fits u r) c.add_both.new.self)) (sym is) c.add_both.ensures

pub add_command-returns-in-Send : goal.add_command-returns-in-Send
add_command-returns-in-Send t c =
    let is : residual_of c.args.command.now ≡ residual.send c.in-Send.channel.number c.in-Send.field-1 (expression_of c.in-Send.field-2) = search (rules, the_lemmas) in
    subst (λ (r : Residual). OnOk c.add_gift.result (Adds c.args.branch c.args.used.now (λ u. Fits u r) c.add_gift.new.self)) (sym is) c.add_gift.ensures

pub add_command-returns-in-Loop : goal.add_command-returns-in-Loop
add_command-returns-in-Loop t c =
    let is : residual_of c.args.command.now ≡ residual.loop 0 (residual_of c.in-Loop.body) = search (rules, the_lemmas) in
    subst (λ (r : Residual). OnOk c.add_command.result (Adds c.args.branch c.args.used.now (λ u. Fits u r) c.add_command.new.used)) (sym is) c.add_command.ensures

pub add_command-returns-in-While : goal.add_command-returns-in-While
add_command-returns-in-While t c =
    let is : residual_of c.args.command.now ≡ residual.while 0 (expression_of c.in-While.field-0) (residual_of c.in-While.body) = search (rules, the_lemmas) in
    subst (λ (r : Residual). OnOk c.add_command-in-While.result (Adds c.args.branch c.args.used.now (λ u. Fits u r) c.add_command-in-While.new.used)) (sym is) c.add_command-in-While.ensures

pub add_command-returns-in_ok-add_guarded-in-If : goal.add_command-returns-in_ok-add_guarded-in-If
add_command-returns-in_ok-add_guarded-in-If t c =
    let arms = map guarded_of c.in-If.arms in
    let last = option_map residual_of c.in-If.last in
    let is : residual_of c.args.command.now ≡ if_of arms last = search (rules, the_lemmas) in
    let first = subst (λ (xs : List Guarded). Adds c.args.branch c.args.used.now (FitsAll (map (λ a. a.body) (map guarded_of xs))) c.add_guarded.new.used)
    c.as_slice.ensures c.in_ok-add_guarded-in-If.ensures in
    subst (λ (r : Residual). OnOk c.add_last.result (Adds c.args.branch c.args.used.now (λ u. Fits u r) c.add_last.new.used)) (sym is)
    (on-ok c.add_last.result
    (λ more. adds-map c.args.branch c.args.used.now c.add_last.new.used (λ u. FitsAll (map (λ a. a.body) arms) u × FitsLast last u) (λ u. Fits u (if_of arms last))
    (λ u both. arms-fit u (map (λ a. a.body) arms) last both.0 both.1)
    (adds-both c.args.branch c.args.used.now c.add_guarded.new.used c.add_last.new.used (FitsAll (map (λ a. a.body) arms)) (FitsLast last) first more))
    c.add_last.ensures)

pub add_command-returns-in_ok-add_labelled-in-Case : goal.add_command-returns-in_ok-add_labelled-in-Case
add_command-returns-in_ok-add_labelled-in-Case t c =
    let arms = map labelled_of c.in-Case.arms in
    let last = option_map residual_of c.in-Case.last in
    let is : residual_of c.args.command.now ≡ case_of (expression_of c.in-Case.field-0) arms last = search (rules, the_lemmas) in
    let first = subst (λ (xs : List Labelled). Adds c.args.branch c.args.used.now (FitsAll (map (λ a. a.body) (map labelled_of xs))) c.add_labelled.new.used)
    c.as_slice-in-Case.ensures c.in_ok-add_labelled-in-Case.ensures in
    subst (λ (r : Residual). OnOk c.add_last-in-Case.result (Adds c.args.branch c.args.used.now (λ u. Fits u r) c.add_last-in-Case.new.used)) (sym is)
    (on-ok c.add_last-in-Case.result
    (λ more. adds-map c.args.branch c.args.used.now c.add_last-in-Case.new.used (λ u. FitsAll (map (λ a. a.body) arms) u × FitsLast last u) (λ u. Fits u (case_of (expression_of c.in-Case.field-0) arms last))
    (λ u both. arms-fit u (map (λ a. a.body) arms) last both.0 both.1)
    (adds-both c.args.branch c.args.used.now c.add_labelled.new.used c.add_last-in-Case.new.used (FitsAll (map (λ a. a.body) arms)) (FitsLast last) first more))
    c.add_last-in-Case.ensures)

pub add_command-returns-in_ok-add_act-in-Input : goal.add_command-returns-in_ok-add_act-in-Input
add_command-returns-in_ok-add_act-in-Input t c =
    let channel = c.in-Input.channel.number in
    let body = residual_of c.in-Input.body in
    let is : residual_of c.args.command.now ≡ residual.choose (channel ∷ []) (residual.arm body residual.no_arms) = search (rules, the_lemmas) in
    subst (λ (r : Residual). OnOk c.add_command-in-Input.result (Adds c.args.branch c.args.used.now (λ u. Fits u r) c.add_command-in-Input.new.used)) (sym is)
    (on-ok c.add_command-in-Input.result
    (λ more. adds-map c.args.branch c.args.used.now c.add_command-in-Input.new.used (λ u. Acts u channel × Fits u body)
    (λ u. Fits u (residual.choose (channel ∷ []) (residual.arm body residual.no_arms)))
    (λ u both. ((both.0, tt), (both.1, tt)))
    (adds-both c.args.branch c.args.used.now c.add_act-in-Input.new.self c.add_command-in-Input.new.used (λ u. Acts u channel) (λ u. Fits u body)
    c.in_ok-add_act-in-Input.ensures more))
    c.add_command-in-Input.ensures)

pub add_command-returns-in-Select : goal.add_command-returns-in-Select
add_command-returns-in-Select t c =
    let arms = map arm_of c.in-Select.arms in
    let is : residual_of c.args.command.now ≡ choose_of arms = search (rules, the_lemmas) in
    subst (λ (r : Residual). OnOk c.add_arms.result (Adds c.args.branch c.args.used.now (λ u. Fits u r) c.add_arms.new.used)) (sym is)
    (on-ok c.add_arms.result
    (λ more. adds-map c.args.branch c.args.used.now c.add_arms.new.used (FitsEachArm arms) (λ u. Fits u (choose_of arms))
    (λ u f. choose-fits u arms f)
    (subst (λ (xs : List Arm). Adds c.args.branch c.args.used.now (FitsEachArm (map arm_of xs)) c.add_arms.new.used) c.as_slice-in-Select.ensures more))
    c.add_arms.ensures)

pub add_command-returns-in-Sequence : goal.add_command-returns-in-Sequence
add_command-returns-in-Sequence t c =
    let children = map residual_of c.in-Sequence.children in
    let is : residual_of c.args.command.now ≡ in_sequence 0 children = search (rules, the_lemmas) in
    subst (λ (r : Residual). OnOk c.add_all.result (Adds c.args.branch c.args.used.now (λ u. Fits u r) c.add_all.new.used)) (sym is)
    (on-ok c.add_all.result
    (λ more. adds-map c.args.branch c.args.used.now c.add_all.new.used (FitsAll children) (λ u. Fits u (in_sequence 0 children))
    (λ u f. sequence-fits u 0 children f)
    (subst (λ (xs : List Command). Adds c.args.branch c.args.used.now (FitsAll (map residual_of xs)) c.add_all.new.used) c.as_slice-in-Sequence.ensures more))
    c.add_all.ensures)

pub add_command-returns-in-Parallel : goal.add_command-returns-in-Parallel
add_command-returns-in-Parallel t c =
    let children = map residual_of c.in-Parallel.children in
    let is : residual_of c.args.command.now ≡ in_parallel 0 children = search (rules, the_lemmas) in
    subst (λ (r : Residual). OnOk c.add_all-in-Parallel.result (Adds c.args.branch c.args.used.now (λ u. Fits u r) c.add_all-in-Parallel.new.used)) (sym is)
    (on-ok c.add_all-in-Parallel.result
    (λ more. adds-map c.args.branch c.args.used.now c.add_all-in-Parallel.new.used (FitsAll children) (λ u. Fits u (in_parallel 0 children))
    (λ u f. parallel-fits u 0 children f)
    (subst (λ (xs : List Command). Adds c.args.branch c.args.used.now (FitsAll (map residual_of xs)) c.add_all-in-Parallel.new.used) c.as_slice-in-Parallel.ensures more))
    c.add_all-in-Parallel.ensures)

pub add_all-loop-command-preserved : goal.add_all-loop-command-preserved
add_all-loop-command-preserved t c = λ after more.
    let xs = c.args.commands.now in
    let i = c.loop-command.command-index in
    let less : i < length xs = omega arith in
    c.loop-command.invariant after
    (all-on c.args.branch Fits residual_of xs i c.command-item.result c.loop-command.used c.add_command.new.used after
    (here-of xs i c.command-item.result less c.command-item.is) c.in_ok-add_command.ensures more)

pub add_all-returns : goal.add_all-returns
add_all-returns t c =
    let past : length c.args.commands.now ≤ c.loop-command.command-index = omega arith in
    c.loop-command.invariant c.loop-command.used
    (all-done c.args.branch Fits residual_of c.args.commands.now c.loop-command.command-index c.loop-command.used past)

pub add_arms-loop-arm-preserved : goal.add_arms-loop-arm-preserved
add_arms-loop-arm-preserved t c = λ after more.
    let xs = c.args.arms.now in
    let i = c.loop-arm.arm-index in
    let less : i < length xs = omega arith in
    let channel : (arm_of c.arm-item.result).channel ≡ c.arm-item.result.channel.number = search (rules, the_lemmas) in
    let body : (arm_of c.arm-item.result).body ≡ residual_of c.arm-item.result.body = search (rules, the_lemmas) in
    c.loop-arm.invariant after
    (all-on c.args.branch FitsArm arm_of xs i c.arm-item.result c.loop-arm.used c.add_command.new.used after
    (here-of xs i c.arm-item.result less c.arm-item.is)
    (adds-map c.args.branch c.loop-arm.used c.add_command.new.used
    (λ u. Acts u c.arm-item.result.channel.number × Fits u (residual_of c.arm-item.result.body)) (λ u. FitsArm u (arm_of c.arm-item.result))
    (λ u both. (subst (λ (n : ℕ). Acts u n) (sym channel) both.0, subst (λ (r : Residual). Fits u r) (sym body) both.1))
    (adds-both c.args.branch c.loop-arm.used c.add_act.new.self c.add_command.new.used (λ u. Acts u c.arm-item.result.channel.number)
    (λ u. Fits u (residual_of c.arm-item.result.body)) c.in_ok-add_act.ensures c.in_ok-add_command.ensures))
    more)

pub add_arms-returns : goal.add_arms-returns
add_arms-returns t c =
    let past : length c.args.arms.now ≤ c.loop-arm.arm-index = omega arith in
    c.loop-arm.invariant c.loop-arm.used
    (all-done c.args.branch FitsArm arm_of c.args.arms.now c.loop-arm.arm-index c.loop-arm.used past)

pub add_guarded-loop-arm-preserved : goal.add_guarded-loop-arm-preserved
add_guarded-loop-arm-preserved t c = λ after more.
    let xs = c.args.arms.now in
    let i = c.loop-arm.arm-index in
    let less : i < length xs = omega arith in
    let body : (guarded_of c.arm-item.result).body ≡ residual_of c.arm-item.result.body = search (rules, the_lemmas) in
    c.loop-arm.invariant after
    (two-on c.args.branch Fits guarded_of (λ a. a.body) xs i c.arm-item.result c.loop-arm.used c.add_command.new.used after
    (here-of xs i c.arm-item.result less c.arm-item.is)
    (subst (λ (r : Residual). Adds c.args.branch c.loop-arm.used (λ u. Fits u r) c.add_command.new.used) (sym body) c.in_ok-add_command.ensures)
    more)

pub add_guarded-returns : goal.add_guarded-returns
add_guarded-returns t c =
    let past : length c.args.arms.now ≤ c.loop-arm.arm-index = omega arith in
    c.loop-arm.invariant c.loop-arm.used
    (two-done c.args.branch Fits guarded_of (λ a. a.body) c.args.arms.now c.loop-arm.arm-index c.loop-arm.used past)

pub add_labelled-loop-arm-preserved : goal.add_labelled-loop-arm-preserved
add_labelled-loop-arm-preserved t c = λ after more.
    let xs = c.args.arms.now in
    let i = c.loop-arm.arm-index in
    let less : i < length xs = omega arith in
    let body : (labelled_of c.arm-item.result).body ≡ residual_of c.arm-item.result.body = search (rules, the_lemmas) in
    c.loop-arm.invariant after
    (two-on c.args.branch Fits labelled_of (λ a. a.body) xs i c.arm-item.result c.loop-arm.used c.add_command.new.used after
    (here-of xs i c.arm-item.result less c.arm-item.is)
    (subst (λ (r : Residual). Adds c.args.branch c.loop-arm.used (λ u. Fits u r) c.add_command.new.used) (sym body) c.in_ok-add_command.ensures)
    more)

pub add_labelled-returns : goal.add_labelled-returns
add_labelled-returns t c =
    let past : length c.args.arms.now ≤ c.loop-arm.arm-index = omega arith in
    c.loop-arm.invariant c.loop-arm.used
    (two-done c.args.branch Fits labelled_of (λ a. a.body) c.args.arms.now c.loop-arm.arm-index c.loop-arm.used past)

pub add_last-returns-in-Some : goal.add_last-returns-in-Some
add_last-returns-in-Some t c =
    subst (λ (o : Option Residual). OnOk c.add_command.result (Adds c.args.branch c.args.used.now (FitsLast o) c.add_command.new.used))
    (sym (ap (option_map residual_of) c.in-Some.is)) c.add_command.ensures
