-- Arms: what each of them is, and what they owe as a whole where each of them is right.
use Rattle.std.specs.Prelude.{ℕ, List, [], ◌∷◌, ◌++◌, map, flat_map, Option, ◌&&◌, not, nat_le, nat_eq, if◌then◌else◌, Ok, Err}
use Rattle.std.specs.List.{list_any}
use Rattle.value.specs.Word.{Word}
use Rattle.types.specs.Expressions.{least_word, if_one_bit}
use Rattle.types.specs.Findings.{Verdict, Keeping, Findings, becomes, if_right, both, all, demands}
use Rattle.types.specs.Names.{VisibleNames, find, is_among}
use Rattle.types.specs.Uses.{label_use}
use Rattle.types.specs.declared.arms.LabelUse.{LabelUse}
use Rattle.types.specs.declared.expression.Valued.{Valued}
use Rattle.refusals.specs.declared.types.Fault.TheVariants.{BadArm}
use Rattle.types.specs.declared.tree.Action.{Action}
use Rattle.types.specs.declared.tree.Action.TheVariants as action
use Rattle.types.specs.declared.tree.Arm.{Arm, roll-Arm, out-Arm}
use Rattle.types.specs.declared.tree.ChannelUse.{ChannelUse}
use Rattle.types.specs.declared.tree.Command.{Command}
use Rattle.types.specs.declared.tree.Guarded.{Guarded, roll-Guarded}
use Rattle.types.specs.declared.tree.Labelled.{Labelled, roll-Labelled}
use Rattle.types.specs.declared.tree.Binding.{Binding}
use Rattle.syntax.specs.declared.command.Label.{Label}
use Rattle.syntax.specs.declared.command.LabelValue.{LabelValue}
use Rattle.syntax.specs.declared.command.LabelValue.TheVariants as label

-- ---- `if`

-- an arm of `if`
pub record GuardedArm : Type 0 where
  pub guard : Valued
  -- the first byte of the guard
  pub start : ℕ
  pub body : Command

-- the arm as it stands in the typed description
abbrev pub typed_guarded : GuardedArm → Guarded
typed_guarded a = roll-Guarded (record { guard = a.guard.expression; body = a.body })

-- a guard is one bit wide
abbrev pub one_bit : GuardedArm → Verdict (Unit {0})
one_bit a = if_one_bit a.guard.width a.start tt

module _ (k : Keeping) where
  unfoldable pub guarded : Findings k Valued → ℕ → Findings k Command → Findings k GuardedArm
  guarded guard start body = becomes (λ p. record { guard = p.0; start = start; body = p.1 }) (both k guard body)

  unfoldable pub conditional : Findings k (List GuardedArm) → Findings k (Option Command) → Findings k Action
  conditional arms last =
      if_right (both k arms last) (λ p.
      becomes (λ _. action.If (map typed_guarded p.0) p.1) (demands k (map one_bit p.0)))

-- ---- `case`

-- the value of a label: of a number at its least width, of an element at the width of its enumeration
abbrev pub label_value : VisibleNames → List Binding → ℕ → LabelValue → Verdict Word
label_value names opened offset (label.Number n) = Ok (least_word n)
label_value names opened offset (label.Name name) = label_use (find names opened name) offset

abbrev pub judged_label : VisibleNames → List Binding → Label → Verdict LabelUse
judged_label names opened l =
    becomes (λ v. record { offset = l.span.start; value = v }) (label_value names opened l.span.start l.value)

-- an arm of `case`
pub record LabelledArm : Type 0 where
  pub labels : List LabelUse
  pub body : Command

-- the arm as it stands in the typed description
abbrev pub typed_labelled : LabelledArm → Labelled
typed_labelled a = roll-Labelled (record { labels = map (λ l. l.value.bits) a.labels; body = a.body })

-- a label is no wider than the expression, and has a value that was not seen before
abbrev pub new_label : ℕ → List ℕ → LabelUse → Verdict (Unit {0})
new_label width seen l =
    if not (list_any (nat_eq l.value.bits) seen) && nat_le l.value.width width then Ok tt else Err (BadArm l.offset)

-- the values seen, with one more
abbrev pub with_seen : List ℕ → ℕ → List ℕ
with_seen seen value = if list_any (nat_eq value) seen then seen else seen ++ value ∷ []

-- what each of the labels owes behind those before it
abbrev pub new_labels : ℕ → List ℕ → List LabelUse → List (Verdict (Unit {0}))
new_labels width seen [] = []
new_labels width seen (l ∷ rest) = new_label width seen l ∷ new_labels width (with_seen seen l.value.bits) rest

module _ (k : Keeping) where
  -- the labels of an arm
  abbrev pub judged_labels : VisibleNames → List Binding → List Label → Findings k (List LabelUse)
  judged_labels names opened labels = all k (map (λ l. k.alone (judged_label names opened l)) labels)

  unfoldable pub labelled : Findings k (List LabelUse) → Findings k Command → Findings k LabelledArm
  labelled labels body = becomes (λ p. record { labels = p.0; body = p.1 }) (both k labels body)

  unfoldable pub cased : Findings k Valued → Findings k (List LabelledArm) → Findings k (Option Command) →
      Findings k Action
  cased subject arms last =
      if_right (both k subject (both k arms last)) (λ p.
      becomes (λ _. action.Case p.0.expression (map typed_labelled p.1.0) p.1.1)
      (demands k (new_labels p.0.width [] (flat_map (λ (a : LabelledArm). a.labels) p.1.0))))

-- ---- `select` and `arbitrate`

abbrev pub opened_arm : ChannelUse × Command → Arm
opened_arm p = roll-Arm (record { channel = p.0; body = p.1 })

-- the channel is none of those seen before
abbrev pub new_channel : List Binding → ChannelUse → Verdict (Unit {0})
new_channel seen c = if is_among seen c.channel then Err (BadArm c.offset) else Ok tt

-- the channels seen, with one more
abbrev pub with_channel : List Binding → Binding → List Binding
with_channel seen channel = if is_among seen channel then seen else seen ++ channel ∷ []

-- what each of the channels owes behind those before it
abbrev pub new_channels : List Binding → List ChannelUse → List (Verdict (Unit {0}))
new_channels seen [] = []
new_channels seen (c ∷ rest) = new_channel seen c ∷ new_channels (with_channel seen c.channel) rest

abbrev pub channel_of_arm : Arm → ChannelUse
channel_of_arm a = (out-Arm a).channel

module _ (k : Keeping) where
  unfoldable pub arm_of : Verdict ChannelUse → Findings k Command → Findings k Arm
  arm_of channel body = becomes opened_arm (both k (k.alone channel) body)

  -- the arms, of which no two may be on one channel
  unfoldable pub distinct : Findings k (List Arm) → Findings k (List Arm)
  distinct arms = if_right arms (λ these. becomes (λ _. these) (demands k (new_channels [] (map channel_of_arm these))))
