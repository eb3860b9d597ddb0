-- What is told apart one after another differs: the labels of a `case`, the channels of arms and of arguments.
use Rattle.std.proofs.Common.{◌≡◌, inl, inr, ℕ, List, [], ◌∷◌, ◌++◌, map, flat_map, true, false, Bool, ◌&&◌, ◌||◌, not, nat_eq, nat_le, if◌then◌else◌, Ok, Err, refl, ap, sym, subst, ◌∙◌, is_ok, eq-eqb, true≢false}
use Rattle.std.proofs.lemmas.Bool.{false≢true}
use Rattle.std.proofs.lemmas.List.{map-append}
use Rattle.std.specs.List.{list_all, list_any}
use Rattle.types.specs.Arms.{LabelledArm, typed_labelled, new_label, new_labels, with_seen, new_channel, new_channels, with_channel, channel_of_arm}
use Rattle.types.specs.Findings.{Verdict}
use Rattle.types.specs.Names.{is_among}
use Rattle.types.specs.SameTree.{AllDiffer, all_labels, arm_channels}
use Rattle.types.specs.declared.arms.LabelUse.{LabelUse}
use Rattle.refusals.specs.declared.types.Fault.TheVariants.{BadArm}
use Rattle.types.specs.declared.tree.Arm.{Arm, out-Arm}
use Rattle.types.specs.declared.tree.Binding.{Binding}
use Rattle.types.specs.declared.tree.ChannelUse.{ChannelUse}
use Rattle.types.specs.declared.tree.Action.TheViews.{out-roll-Labelled}
use Rattle.syntax.specs.Lists.{In, Every}
use Rattle.types.proofs.SameNames.{not_among}

-- ---- elements that are seen one after another

front_in : {X : Type 0} (x : X) (seen : List X) (y : X) → In x seen → In x (seen ++ y ∷ [])
front_in x [] y at_it = absurd at_it
front_in x (z ∷ seen) y (inl same) = inl same
front_in x (z ∷ seen) y (inr at_it) = inr (front_in x seen y at_it)

last_in : {X : Type 0} (seen : List X) (y : X) → In y (seen ++ y ∷ [])
last_in [] y = inl refl
last_in (z ∷ seen) y = inr (last_in seen y)

-- what is new behind y as well is neither y nor what was seen before
module _ {X : Type 0} (seen : List X) (y : X) where
  new_before : (xs : List X) → Every (λ x. ¬ In x (seen ++ y ∷ [])) xs → Every (λ x. ¬ In x seen) xs
  new_before [] h = tt
  new_before (x ∷ xs) h = ((λ at_it. h.0 (front_in x seen y at_it)), new_before xs h.1)

  not_later : (xs : List X) → Every (λ x. ¬ In x (seen ++ y ∷ [])) xs → ¬ In y xs
  not_later [] h = λ at_it. absurd at_it
  not_later (x ∷ xs) h = by (not_later xs h.1)
    where
      by : ¬ In y xs → ¬ In y (x ∷ xs)
      by rest = λ at_it. elim at_it [
        | inl same ↦ h.0 (subst (λ z. In z (seen ++ y ∷ [])) same (last_in seen y))
        | inr there ↦ rest there
      ]

-- ---- channels

new_channel-ok : (seen : List Binding) (c : ChannelUse) → new_channel seen c ≡ Ok tt → is_among seen c.channel ≡ false
new_channel-ok seen c e = by (is_among seen c.channel) refl e
  where
    by : (t : Bool) → is_among seen c.channel ≡ t → ◌≡◌ {A = Verdict (Unit {0})} (if t then Err (BadArm c.offset) else Ok tt) (Ok tt) → is_among seen c.channel ≡ false
    by false is e = is
    by true is e = absurd cc

abbrev channels : List ChannelUse → List Binding
channels us = map (λ (u : ChannelUse). u.channel) us

channels_new : (seen : List Binding) (us : List ChannelUse) → Every (λ v. v ≡ Ok tt) (new_channels seen us)
    → Every (λ b. ¬ In b seen) (channels us) × AllDiffer (channels us)
channels_new seen [] h = (tt, tt)
channels_new seen (c ∷ us) h =
    let fresh = new_channel-ok seen c h.0 in
    let grown : with_channel seen c.channel ≡ seen ++ c.channel ∷ [] = rw fresh refl in
    let rest = channels_new (with_channel seen c.channel) us h.1 in
    let new = subst (λ (s : List Binding). Every (λ b. ¬ In b s) (channels us)) grown rest.0 in
    ((not_among seen c.channel fresh, new_before seen c.channel (channels us) new), (not_later seen c.channel (channels us) new, rest.1))

pub channels_differ : (us : List ChannelUse) → Every (λ v. v ≡ Ok tt) (new_channels [] us) → AllDiffer (channels us)
channels_differ us h = (channels_new [] us h).1

channels_of_arms : (made : List Arm) → channels (map channel_of_arm made) ≡ arm_channels made
channels_of_arms [] = refl
channels_of_arms (a ∷ made) = ap (λ z. (out-Arm a).channel.channel ∷ z) (channels_of_arms made)

pub arms_differ : (made : List Arm) → Every (λ v. v ≡ Ok tt) (new_channels [] (map channel_of_arm made)) → AllDiffer (arm_channels made)
arms_differ made h = subst AllDiffer (channels_of_arms made) (channels_differ (map channel_of_arm made) h)

-- the same, asked by a test
pub all_ok : (vs : List (Verdict (Unit {0}))) → list_all is_ok vs ≡ true → Every (λ v. v ≡ Ok tt) vs
all_ok [] e = tt
all_ok (Ok a ∷ vs) e = (refl, all_ok vs e)
all_ok (Err f ∷ vs) e = absurd (false≢true e)

-- ---- labels

not_seen : (seen : List ℕ) (n : ℕ) → list_any (nat_eq n) seen ≡ false → ¬ In n seen
not_seen [] n e = λ never. absurd never
not_seen (m ∷ seen) n e = by (nat_eq n m) refl e (not_seen seen n)
  where
    by : (t : Bool) → nat_eq n m ≡ t → (t || list_any (nat_eq n) seen) ≡ false → (list_any (nat_eq n) seen ≡ false → ¬ In n seen) → ¬ In n (m ∷ seen)
    by true is e rest = absurd (true≢false e)
    by false is e rest = λ here. elim here [
      | inl same ↦ true≢false (sym (eq-eqb n m same) ∙ is)
      | inr there ↦ rest e there
    ]

new_label-fresh : (width : ℕ) (seen : List ℕ) (u : LabelUse) → new_label width seen u ≡ Ok tt → list_any (nat_eq u.value.bits) seen ≡ false
new_label-fresh width seen u e = by (list_any (nat_eq u.value.bits) seen) (nat_le u.value.width width) refl e
  where
    by : (a b : Bool) → list_any (nat_eq u.value.bits) seen ≡ a → ◌≡◌ {A = Verdict (Unit {0})} (if not a && b then Ok tt else Err (BadArm u.offset)) (Ok tt)
        → list_any (nat_eq u.value.bits) seen ≡ false
    by false b is e = is
    by true b is e = absurd cc

abbrev bits : List LabelUse → List ℕ
bits us = map (λ (u : LabelUse). u.value.bits) us

labels_new : (width : ℕ) (seen : List ℕ) (us : List LabelUse) → Every (λ v. v ≡ Ok tt) (new_labels width seen us)
    → Every (λ n. ¬ In n seen) (bits us) × AllDiffer (bits us)
labels_new width seen [] h = (tt, tt)
labels_new width seen (u ∷ us) h =
    let fresh = new_label-fresh width seen u h.0 in
    let grown : with_seen seen u.value.bits ≡ seen ++ u.value.bits ∷ [] = rw fresh refl in
    let rest = labels_new width (with_seen seen u.value.bits) us h.1 in
    let new = subst (λ (s : List ℕ). Every (λ n. ¬ In n s) (bits us)) grown rest.0 in
    ((not_seen seen u.value.bits fresh, new_before seen u.value.bits (bits us) new), (not_later seen u.value.bits (bits us) new, rest.1))

labels_of_arms : (made : List LabelledArm) → bits (flat_map (λ (a : LabelledArm). a.labels) made) ≡ all_labels (map typed_labelled made)
labels_of_arms [] = refl
labels_of_arms (a ∷ made) =
    map-append (λ (u : LabelUse). u.value.bits) a.labels (flat_map (λ (a : LabelledArm). a.labels) made)
    ∙ ap (λ z. bits a.labels ++ z) (labels_of_arms made)
    ∙ ap (λ z. z.labels ++ all_labels (map typed_labelled made)) (sym (out-roll-Labelled (record { labels = bits a.labels; body = a.body })))

pub labels_differ : (width : ℕ) (made : List LabelledArm) → Every (λ v. v ≡ Ok tt) (new_labels width [] (flat_map (λ (a : LabelledArm). a.labels) made))
    → AllDiffer (all_labels (map typed_labelled made))
labels_differ width made h = subst AllDiffer (labels_of_arms made) (labels_new width [] (flat_map (λ (a : LabelledArm). a.labels) made) h).1
