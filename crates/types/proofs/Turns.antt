-- Parts that are judged one after another: what one more of them adds.
use Rattle.std.proofs.Common.{◌≡◌, ℕ, ◌+◌, ◌<◌, List, ◌∷◌, length, get_or, drop, map, ap, sym, ◌∙◌}
use Rattle.std.proofs.lemmas.List.{at_drop_more}
use Rattle.types.specs.Arms.{new_channel, new_channels, with_channel, channel_of_arm}
use Rattle.types.specs.Findings.{Verdict, and, with_next, with_all, and_all}
use Rattle.types.specs.internal.Least.{least}
use Rattle.types.specs.internal.Owed.{labels_owe, labels_owed, seen_after}
use Rattle.types.specs.declared.arms.LabelUse.{LabelUse}
use Rattle.types.specs.declared.tree.Arm.{Arm}
use Rattle.types.specs.declared.tree.Binding.{Binding}

module _ {A : Type 0} (parts : List A) (i : ℕ) (part : A) (within : i < length parts) (here : part ≡ get_or parts i part) where
  -- what is said of the part and those behind it is said of all that were left
  turn : {Y : Type 0} (F : List A → Y) → F (part ∷ drop (i + 1) parts) ≡ F (drop i parts)
  turn F = ap (λ (p : A). F (p ∷ drop (i + 1) parts)) here ∙ sym (at_drop_more F parts i part within)

  -- a construct more
  pub with_part : {B X : Type 0} (judged : A → B) (found : B → Verdict X) (settled more : Verdict (List X)) (next : Verdict X)
      → next ≡ found (judged part) → more ≡ with_next least settled next
      → with_all least more (map found (map judged (drop (i + 1) parts))) ≡ with_all least settled (map found (map judged (drop i parts)))
  with_part {B} {X} judged found settled more next next_is more_is =
      ap (λ (v : Verdict (List X)). with_all least v (map found (map judged (drop (i + 1) parts)))) (more_is ∙ ap (with_next least settled) next_is)
      ∙ turn (λ (ps : List A). with_all least settled (map found (map judged ps)))

  pub with_one : {X : Type 0} (found : A → Verdict X) (settled more : Verdict (List X)) (next : Verdict X)
      → next ≡ found part → more ≡ with_next least settled next
      → with_all least more (map found (drop (i + 1) parts)) ≡ with_all least settled (map found (drop i parts))
  with_one {X} found settled more next next_is more_is =
      ap (λ (v : Verdict (List X)). with_all least v (map found (drop (i + 1) parts))) (more_is ∙ ap (with_next least settled) next_is)
      ∙ turn (λ (ps : List A). with_all least settled (map found ps))

  -- a demand more
  pub and_one : (owes : A → Verdict (Unit {0})) (own more owed : Verdict (Unit {0}))
      → owed ≡ owes part → more ≡ and least own owed
      → and_all least more (map owes (drop (i + 1) parts)) ≡ and_all least own (map owes (drop i parts))
  and_one owes own more owed owed_is more_is =
      ap (λ (v : Verdict (Unit {0})). and_all least v (map owes (drop (i + 1) parts))) (more_is ∙ ap (and least own) owed_is)
      ∙ turn (λ (ps : List A). and_all least own (map owes ps))

  -- the labels of an arm more
  pub and_labels : (labels : A → Verdict (List LabelUse)) (width : ℕ) (seen then_seen : List ℕ) (own more owed : Verdict (Unit {0}))
      → owed ≡ labels_owe width seen (labels part) → then_seen ≡ seen_after seen (labels part) → more ≡ and least own owed
      → labels_owed width then_seen more (map labels (drop (i + 1) parts)) ≡ labels_owed width seen own (map labels (drop i parts))
  and_labels labels width seen then_seen own more owed owed_is seen_is more_is =
      ap (λ (v : Verdict (Unit {0})). labels_owed width then_seen v (map labels (drop (i + 1) parts))) (more_is ∙ ap (and least own) owed_is)
      ∙ ap (λ (values : List ℕ). labels_owed width values (and least own (labels_owe width seen (labels part))) (map labels (drop (i + 1) parts))) seen_is
      ∙ turn (λ (ps : List A). labels_owed width seen own (map labels ps))

-- the channel of an arm more
pub and_channel : (arms : List Arm) (i : ℕ) (arm : Arm) (seen then_seen : List Binding) (own more owed : Verdict (Unit {0}))
    → i < length arms → arm ≡ get_or arms i arm
    → owed ≡ new_channel seen (channel_of_arm arm) → then_seen ≡ with_channel seen (channel_of_arm arm).channel → more ≡ and least own owed
    → and_all least more (new_channels then_seen (map channel_of_arm (drop (i + 1) arms))) ≡ and_all least own (new_channels seen (map channel_of_arm (drop i arms)))
and_channel arms i arm seen then_seen own more owed within here owed_is seen_is more_is =
    ap (λ (v : Verdict (Unit {0})). and_all least v (new_channels then_seen (map channel_of_arm (drop (i + 1) arms)))) (more_is ∙ ap (and least own) owed_is)
    ∙ ap (λ (channels : List Binding). and_all least (and least own (new_channel seen (channel_of_arm arm))) (new_channels channels (map channel_of_arm (drop (i + 1) arms)))) seen_is
    ∙ turn arms i arm within here (λ (rest : List Arm). and_all least own (new_channels seen (map channel_of_arm rest)))
