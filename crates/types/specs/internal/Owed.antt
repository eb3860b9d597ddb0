-- What the arms of `if` and `case` owe, asked of one arm after another before it is known whether all are right.
-- No reader has to believe it: `proofs/Owed.antt` ties it to `conditional` and `cased` of `Arms.antt`, which ask right
-- arms alone.
use Rattle.std.specs.Prelude.{ℕ, List, [], ◌∷◌, map, Option, nat_eq, if◌then◌else◌, Ok, Err}
use Rattle.types.specs.Arms.{new_labels, with_seen, judged_labels}
use Rattle.types.specs.Commands.{Scope, start_of, judged_command}
use Rattle.types.specs.Expressions.{if_one_bit, judged_expression}
use Rattle.types.specs.Findings.{Verdict, becomes, if_right, both, and, demands}
use Rattle.types.specs.internal.Least.{least}
use Rattle.types.specs.declared.arms.LabelUse.{LabelUse}
use Rattle.types.specs.declared.expression.Valued.{Valued}
use Rattle.types.specs.declared.tree.Action.{Action}
use Rattle.types.specs.declared.tree.Action.TheVariants as action
use Rattle.types.specs.declared.tree.Command.{Command}
use Rattle.types.specs.declared.tree.Guarded.{Guarded, roll-Guarded}
use Rattle.types.specs.declared.tree.Labelled.{Labelled, roll-Labelled}
use Rattle.types.specs.declared.tree.Binding.{Binding}
use Rattle.syntax.specs.declared.command.CaseArm as arm_of_case
use Rattle.syntax.specs.declared.command.CaseArm.{out-CaseArm}
use Rattle.syntax.specs.declared.command.Guarded as arm_of_if
use Rattle.syntax.specs.declared.command.Guarded.{out-Guarded}

-- ---- `if`

abbrev pub guarded_by : Valued × Command → Guarded
guarded_by p = roll-Guarded (record { guard = p.0.expression; body = p.1 })

-- the guard of an arm
abbrev pub guard_of : Scope → List Binding → arm_of_if.Guarded → Verdict Valued
guard_of scope opened a = judged_expression least (out-Guarded a).guard scope.names opened

abbrev pub guarded_arm : Scope → List Binding → arm_of_if.Guarded → Verdict Guarded
guarded_arm scope opened a =
    becomes guarded_by (both least (guard_of scope opened a) (judged_command least (out-Guarded a).body scope opened))

-- what a guard owes; one that has a fault owes nothing more
abbrev pub guard_owes : Verdict Valued → ℕ → Verdict (Unit {0})
guard_owes (Ok guard) start = if_one_bit guard.width start tt
guard_owes (Err fault) start = Ok tt

abbrev pub guard_owed : Scope → List Binding → arm_of_if.Guarded → Verdict (Unit {0})
guard_owed scope opened a = guard_owes (guard_of scope opened a) (start_of (out-Guarded a).guard)

-- an `if` whose arms owe this
abbrev pub conditional_owing : Verdict (List Guarded) → Verdict (Unit {0}) → Verdict (Option Command) → Verdict Action
conditional_owing arms own last = if_right (both least arms last) (λ p. becomes (λ _. action.If p.0 p.1) own)

-- ---- `case`

abbrev pub labelled_by : List LabelUse × Command → Labelled
labelled_by p = roll-Labelled (record { labels = map (λ l. l.value.bits) p.0; body = p.1 })

-- the labels of an arm
abbrev pub labels_of : Scope → List Binding → arm_of_case.CaseArm → Verdict (List LabelUse)
labels_of scope opened a = judged_labels least scope.names opened (out-CaseArm a).labels

abbrev pub labelled_arm : Scope → List Binding → arm_of_case.CaseArm → Verdict Labelled
labelled_arm scope opened a =
    becomes labelled_by (both least (labels_of scope opened a) (judged_command least (out-CaseArm a).body scope opened))

-- how wide an expression is, if it is right
abbrev pub width_of : Verdict Valued → ℕ
width_of (Ok value) = value.width
width_of (Err fault) = 0

-- the values seen, with those of labels
abbrev pub with_all_seen : List ℕ → List LabelUse → List ℕ
with_all_seen seen [] = seen
with_all_seen seen (l ∷ rest) = with_all_seen (with_seen seen l.value.bits) rest

-- the values seen behind the labels of an arm, if they are right
abbrev pub seen_after : List ℕ → Verdict (List LabelUse) → List ℕ
seen_after seen (Ok labels) = with_all_seen seen labels
seen_after seen (Err fault) = seen

-- what the labels of an arm owe; labels of which one has a fault owe nothing more
abbrev pub labels_owe : ℕ → List ℕ → Verdict (List LabelUse) → Verdict (Unit {0})
labels_owe width seen (Ok labels) = demands least (new_labels width seen labels)
labels_owe width seen (Err fault) = Ok tt

-- what the labels of the arms owe one after another, beside what was owed before
abbrev pub labels_owed : ℕ → List ℕ → Verdict (Unit {0}) → List (Verdict (List LabelUse)) → Verdict (Unit {0})
labels_owed width seen own [] = own
labels_owed width seen own (labels ∷ rest) =
    labels_owed width (seen_after seen labels) (and least own (labels_owe width seen labels)) rest

-- a `case` whose arms owe this
abbrev pub case_owing : Verdict Valued → Verdict (List Labelled) → Verdict (Unit {0}) → Verdict (Option Command) →
    Verdict Action
case_owing subject arms own last =
    if_right (both least subject (both least arms last)) (λ p.
    becomes (λ _. action.Case p.0.expression p.1.0 p.1.1) own)
