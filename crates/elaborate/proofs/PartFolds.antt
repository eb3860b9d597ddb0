-- The parts of a body that are no commands, and how a relation goes over equations.
use Rattle.std.proofs.Common.{◌≡◌, ℕ, sym, subst}
use Rattle.elaborate.specs.Body.{Part, action_part, arm_part, command_part, guarded_part, labelled_part}
use Rattle.system.specs.declared.command.Arm as tree_arm
use Rattle.system.specs.declared.command.Command as tree_command
use Rattle.system.specs.declared.command.Guarded as tree_guarded
use Rattle.system.specs.declared.command.Labelled as tree_labelled
use Rattle.types.specs.declared.tree.Action.{Action}
use Rattle.types.specs.declared.tree.Arm.{Arm}
use Rattle.types.specs.declared.tree.Guarded.{Guarded}
use Rattle.types.specs.declared.tree.Labelled.{Labelled}
use Rattle.types.specs.declared.tree.Action.TheFolds.{fold-Action, fold-Arm, fold-Guarded, fold-Labelled}

abbrev pub PartOnLine : Type 0
PartOnLine = ℕ → Part tree_command.Command

abbrev pub part_of_action : Action → PartOnLine
part_of_action =
    fold-Action PartOnLine (Part tree_arm.Arm) (Part tree_command.Command) (Part tree_guarded.Guarded) (Part tree_labelled.Labelled)
    action_part arm_part command_part guarded_part labelled_part

abbrev pub part_of_arm : Arm → Part tree_arm.Arm
part_of_arm =
    fold-Arm PartOnLine (Part tree_arm.Arm) (Part tree_command.Command) (Part tree_guarded.Guarded) (Part tree_labelled.Labelled)
    action_part arm_part command_part guarded_part labelled_part

abbrev pub part_of_guarded : Guarded → Part tree_guarded.Guarded
part_of_guarded =
    fold-Guarded PartOnLine (Part tree_arm.Arm) (Part tree_command.Command) (Part tree_guarded.Guarded) (Part tree_labelled.Labelled)
    action_part arm_part command_part guarded_part labelled_part

abbrev pub part_of_labelled : Labelled → Part tree_labelled.Labelled
part_of_labelled =
    fold-Labelled PartOnLine (Part tree_arm.Arm) (Part tree_command.Command) (Part tree_guarded.Guarded) (Part tree_labelled.Labelled)
    action_part arm_part command_part guarded_part labelled_part

-- an element with its proof
abbrev pub With : {X : Type 0} → (X → Type 0) → Type 0
With {X = X} P = (x : X) × P x

-- what is related stays so at equal elements
pub moved : {A B : Type 0} (R : A → B → Type 0) {a b : A} {c d : B} → a ≡ b → c ≡ d → R b d → R a c
moved R {a = a} {d = d} e f h = subst (R a) (sym f) (subst (λ x. R x d) (sym e) h)
