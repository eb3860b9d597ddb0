-- A branch that touches nothing leaves what is found as it is; and lists, with one part more.
use Rattle.std.proofs.Common.{◌≡◌, ◌⊎◌, inl, inr, ℕ, List, [], ◌∷◌, Bool, true, cond, nat_lt, length, Option, refl, sym, ap, ◌∙◌, arith, rules}
use Rattle.std.proofs.lemmas.Bool.Decides.{nat_tests}
use Rattle.system.specs.declared.command.Action as action
use Rattle.system.specs.declared.command.Action.{Action}
use Rattle.system.specs.declared.command.Action.TheFolds.{the_lemmas}
use Rattle.system.specs.declared.command.Command.{Command}
use Rattle.system.specs.declared.expression.Use.{Use}
use Rattle.system.specs.declared.system.Variable.{Variable}
use Rattle.sharing_check.specs.declared.touched.Touched.{Touched}
use Rattle.sharing_check.specs.internal.Crossing.{Table, least_with, noted_all}
use Rattle.sharing_check.specs.internal.Gathering.{Gathered, beside, gathered, gathering, gathering_arm, gathering_guarded, gathering_labelled, joined}
use Rattle.sharing_check.proofs.Turns.{touched_more, beside_more, guarded_touches, labelled_touches, arm_touches}
use Rattle.sharing_check.proofs.clashes.+gathering.Goals as goal

chosen : (variables : List Variable) (earlier : Table) (least : Option ℕ) (b : Bool) → b ≡ true
    → gathered (noted_all (cond b [] earlier) (cond b earlier [])) (least_with variables (cond b [] earlier) (cond b earlier []) least) ≡ gathered earlier least
chosen variables earlier least b is = rw is refl

joined_nothing : (variables : List Variable) (earlier : Table) (least : Option ℕ) → joined variables earlier (gathered [] least) ≡ gathered earlier least
joined_nothing variables [] least = refl
joined_nothing variables (entry ∷ earlier) least =
    let less : nat_lt (length {A = ℕ × Touched} []) (length (entry ∷ earlier)) ≡ true = grind (arith, nat_tests) in
    chosen variables (entry ∷ earlier) least (nat_lt (length {A = ℕ × Touched} []) (length (entry ∷ earlier))) less

idle : (variables : List Variable) (found : Gathered) (child : Command) (a : Action) → a ≡ child.action
    → (a ≡ action.Continue) ⊎ ((a ≡ action.Halt) ⊎ ((x : Use) × (a ≡ action.Sync x)))
    → found ≡ beside variables (gathering variables child) found
idle variables found child a of (inl e) =
    let is : gathering variables child (gathered [] found.least) ≡ gathered [] found.least = search (rules, the_lemmas) in
    sym (ap (joined variables found.touched) is ∙ joined_nothing variables found.touched found.least)
idle variables found child a of (inr (inl e)) =
    let is : gathering variables child (gathered [] found.least) ≡ gathered [] found.least = search (rules, the_lemmas) in
    sym (ap (joined variables found.touched) is ∙ joined_nothing variables found.touched found.least)
idle variables found child a of (inr (inr (x, e))) =
    let is : gathering variables child (gathered [] found.least) ≡ gathered [] found.least = search (rules, the_lemmas) in
    sym (ap (joined variables found.touched) is ∙ joined_nothing variables found.touched found.least)

pub add_branch-returns-in-Continue : goal.add_branch-returns-in-Continue
add_branch-returns-in-Continue t c = idle c.args.variables.now c.args.found.now c.args.child.now c.get.result.now c.get.ensures c.in-Continue.is

pub add_branch-returns-in-Continue-2 : goal.add_branch-returns-in-Continue-2
add_branch-returns-in-Continue-2 t c = idle c.args.variables.now c.args.found.now c.args.child.now c.get.result.now c.get.ensures c.in-Continue.is

pub add_branch-returns-in-Continue-3 : goal.add_branch-returns-in-Continue-3
add_branch-returns-in-Continue-3 t c = idle c.args.variables.now c.args.found.now c.args.child.now c.get.result.now c.get.ensures c.in-Continue.is

pub add_sequence-loop-child-preserved : goal.add_sequence-loop-child-preserved
add_sequence-loop-child-preserved t c =
    touched_more c.args.children.now c.loop-child.child-index c.child-item.result c.loop-child-test.true c.child-item.is
    (gathering c.args.variables.now) c.loop-child.found c.add_command.new.found c.in_ok-add_command.ensures
    ∙ c.loop-child.invariant

pub add_branches-loop-child-preserved : goal.add_branches-loop-child-preserved
add_branches-loop-child-preserved t c =
    beside_more c.args.children.now c.loop-child.child-index c.child-item.result c.loop-child-test.true c.child-item.is
    c.args.variables.now (gathering c.args.variables.now) c.loop-child.found c.add_branch.new.found c.in_ok-add_branch.ensures
    ∙ c.loop-child.invariant

pub add_guarded-loop-arm-preserved : goal.add_guarded-loop-arm-preserved
add_guarded-loop-arm-preserved t c =
    touched_more c.args.arms.now c.loop-arm.arm-index c.arm-item.result c.loop-arm-test.true c.arm-item.is
    (gathering_guarded c.args.variables.now) c.loop-arm.found c.add_command.new.found
    (c.in_ok-add_command.ensures
    ∙ (ap (gathering c.args.variables.now c.arm-item.result.body) c.in_ok-add_reads.ensures
    ∙ guarded_touches c.args.variables.now c.arm-item.result c.loop-arm.found))
    ∙ c.loop-arm.invariant

pub add_labelled-loop-arm-preserved : goal.add_labelled-loop-arm-preserved
add_labelled-loop-arm-preserved t c =
    touched_more c.args.arms.now c.loop-arm.arm-index c.arm-item.result c.loop-arm-test.true c.arm-item.is
    (gathering_labelled c.args.variables.now) c.loop-arm.found c.add_command.new.found
    (c.in_ok-add_command.ensures ∙ labelled_touches c.args.variables.now c.arm-item.result c.loop-arm.found)
    ∙ c.loop-arm.invariant

pub add_arms-loop-arm-preserved : goal.add_arms-loop-arm-preserved
add_arms-loop-arm-preserved t c =
    touched_more c.args.arms.now c.loop-arm.arm-index c.arm-item.result c.loop-arm-test.true c.arm-item.is
    (gathering_arm c.args.variables.now) c.loop-arm.found c.add_command.new.found
    (c.in_ok-add_command.ensures ∙ arm_touches c.args.variables.now c.arm-item.result c.loop-arm.found)
    ∙ c.loop-arm.invariant
