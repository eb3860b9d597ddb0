-- What arms owe one after another, before it is known whether all are right, is what right arms owe as a whole.
use Rattle.std.proofs.Common.{◌≡◌, ℕ, List, [], ◌∷◌, ◌++◌, map, Option, Ok, Err, refl, ap, sym, ◌∙◌}
use Rattle.std.specs.Prelude.{flat_map}
use Rattle.std.proofs.lemmas.List.{map-append, flat_map_more}
use Rattle.types.specs.Arms.{GuardedArm, LabelledArm, typed_guarded, typed_labelled, one_bit, guarded, conditional, labelled, cased, new_label, new_labels, with_seen}
use Rattle.types.specs.Commands.{Scope, start_of, action_layer, arm_layer, case_arm_layer, command_layer, guarded_layer, each, judged_command}
use Rattle.types.specs.Findings.{Verdict, becomes, both, and, with_next, with_all, all, and_all, demands}
use Rattle.types.specs.internal.CommandParts.{judged_guarded, judged_labelled}
use Rattle.types.specs.internal.Least.{least}
use Rattle.types.specs.internal.Owed.{guarded_by, guard_of, guarded_arm, guard_owes, guard_owed, conditional_owing, labelled_by, labels_of, labelled_arm, width_of, with_all_seen, seen_after, labels_owe, labels_owed, case_owing}
use Rattle.types.specs.declared.arms.LabelUse.{LabelUse}
use Rattle.types.specs.declared.expression.Valued.{Valued}
use Rattle.types.specs.declared.tree.Action.TheVariants as action
use Rattle.types.specs.declared.tree.Binding.{Binding}
use Rattle.types.specs.declared.tree.Command.{Command}
use Rattle.types.specs.declared.tree.Guarded as typed_arm
use Rattle.types.specs.declared.tree.Labelled.{Labelled}
use Rattle.syntax.specs.declared.command.Action.TheFolds.{fold_out-CaseArm, fold_out-Guarded}
use Rattle.syntax.specs.declared.command.CaseArm.{CaseArm, out-CaseArm}
use Rattle.syntax.specs.declared.command.Guarded.{Guarded, out-Guarded}
use Rattle.types.proofs.Order.{lesser-lesser}

-- ---- demands one after another

and_twice : (a b c : Verdict (Unit {0})) → and least (and least a b) c ≡ and least a (and least b c)
and_twice (Ok a) (Ok b) (Ok c) = refl
and_twice (Ok a) (Ok b) (Err h) = refl
and_twice (Ok a) (Err g) (Ok c) = refl
and_twice (Ok a) (Err g) (Err h) = refl
and_twice (Err f) (Ok b) (Ok c) = refl
and_twice (Err f) (Ok b) (Err h) = refl
and_twice (Err f) (Err g) (Ok c) = refl
and_twice (Err f) (Err g) (Err h) = ap (λ x. Err x) (lesser-lesser f g h)

none_behind : (a : Verdict (Unit {0})) → a ≡ and least a (Ok tt)
none_behind (Ok a) = refl
none_behind (Err f) = refl

none_before : (a : Verdict (Unit {0})) → a ≡ and least (Ok tt) a
none_before (Ok a) = refl
none_before (Err f) = refl

demands_behind : (before : Verdict (Unit {0})) (verdicts : List (Verdict (Unit {0}))) → and_all least before verdicts ≡ and least before (demands least verdicts)
demands_behind before [] = none_behind before
demands_behind before (next ∷ rest) =
    demands_behind (and least before next) rest
    ∙ and_twice before next (demands least rest)
    ∙ ap (λ x. and least before (and least x (demands least rest))) (none_before next)
    ∙ ap (and least before) (sym (demands_behind (and least (Ok tt) next) rest))

and_all-append : (before : Verdict (Unit {0})) (xs ys : List (Verdict (Unit {0}))) → and_all least before (xs ++ ys) ≡ and_all least (and_all least before xs) ys
and_all-append before [] ys = refl
and_all-append before (x ∷ xs) ys = and_all-append (and least before x) xs ys

demands-append : (xs ys : List (Verdict (Unit {0}))) → demands least (xs ++ ys) ≡ and least (demands least xs) (demands least ys)
demands-append xs ys = and_all-append (Ok tt) xs ys ∙ demands_behind (demands least xs) ys

-- ---- arms as they stand in the typed description

module _ {X Y P Q : Type 0} (judged : X → Y) (right : Y → Verdict P) (made : X → Verdict Q) (typed : P → Q)
    (made_is : (x : X) → made x ≡ becomes typed (right (judged x)))
  where
    next_made : (done : Verdict (List P)) (next : Verdict P)
        → with_next least (becomes (map typed) done) (becomes typed next) ≡ becomes (map typed) (with_next least done next)
    next_made (Ok ps) (Ok p) = ap (λ x. Ok x) (sym (map-append typed ps (p ∷ [])))
    next_made (Ok ps) (Err g) = refl
    next_made (Err f) (Ok p) = refl
    next_made (Err f) (Err g) = refl

    more_made : (done : Verdict (List P)) (xs : List X)
        → with_all least (becomes (map typed) done) (map made xs) ≡ becomes (map typed) (with_all least done (map right (map judged xs)))
    more_made done [] = refl
    more_made done (x ∷ xs) =
        ap (λ z. with_all least z (map made xs)) (ap (λ z. with_next least (becomes (map typed) done) z) (made_is x) ∙ next_made done (right (judged x)))
        ∙ more_made (with_next least done (right (judged x))) xs

    all_made : (xs : List X) → all least (map made xs) ≡ becomes (map typed) (all least (map right (map judged xs)))
    all_made xs = more_made (Ok []) xs

-- ---- `if`

module _ {X Y P : Type 0} (judged : X → Y) (right : Y → Verdict P) (owe : P → Verdict (Unit {0})) (owed : X → Verdict (Unit {0}))
    (owed_is : (x : X) (p : P) → right (judged x) ≡ Ok p → owed x ≡ owe p)
  where
    -- this is what those so far owe, where they are right
    abbrev Owing : Verdict (List P) → Verdict (Unit {0}) → Type 0
    Owing done own = (ps : List P) → done ≡ Ok ps → own ≡ demands least (map owe ps)

    next_owes : (done : Verdict (List P)) (next : Verdict P) (own mine : Verdict (Unit {0})) → Owing done own
        → ((p : P) → next ≡ Ok p → mine ≡ owe p) → Owing (with_next least done next) (and least own mine)
    next_owes (Ok ps) (Ok p) own mine before here qs e =
        let same : ps ++ p ∷ [] ≡ qs = cc in
        ap (λ x. and least x mine) (before ps refl)
        ∙ ap (and least (demands least (map owe ps))) (here p refl)
        ∙ sym (and_all-append (Ok tt) (map owe ps) (owe p ∷ []))
        ∙ ap (demands least) (sym (map-append owe ps (p ∷ [])))
        ∙ ap (λ x. demands least (map owe x)) same
    next_owes (Ok ps) (Err g) own mine before here qs e = cc
    next_owes (Err f) (Ok p) own mine before here qs e = cc
    next_owes (Err f) (Err g) own mine before here qs e = cc

    more_owe : (done : Verdict (List P)) (own : Verdict (Unit {0})) (xs : List X) → Owing done own
        → Owing (with_all least done (map right (map judged xs))) (and_all least own (map owed xs))
    more_owe done own [] before = before
    more_owe done own (x ∷ xs) before =
        more_owe (with_next least done (right (judged x))) (and least own (owed x)) xs (next_owes done (right (judged x)) own (owed x) before (owed_is x))

    all_owe : (xs : List X) → Owing (all least (map right (map judged xs))) (demands least (map owed xs))
    all_owe xs =
        more_owe (Ok []) (Ok tt) xs (λ ps e.
        let same : [] ≡ ps = cc in
        ap (λ x. demands least (map owe x)) same)

guarded_made : (guard : Verdict Valued) (start : ℕ) (body : Verdict Command)
    → becomes guarded_by (both least guard body) ≡ becomes typed_guarded (guarded least guard start body)
unfolding guarded
guarded_made (Ok v) start (Ok b) = refl
guarded_made (Ok v) start (Err g) = refl
guarded_made (Err f) start (Ok b) = refl
guarded_made (Err f) start (Err g) = refl

guard_one_bit : (guard : Verdict Valued) (start : ℕ) (body : Verdict Command) (arm : GuardedArm)
    → guarded least guard start body ≡ Ok arm → guard_owes guard start ≡ one_bit arm
unfolding guarded
guard_one_bit (Ok v) start (Ok b) arm e =
    let same : ◌≡◌ {A = GuardedArm} (record { guard = v; start = start; body = b }) arm = cc in
    ap one_bit same
guard_one_bit (Ok v) start (Err g) arm e = cc
guard_one_bit (Err f) start (Ok b) arm e = cc
guard_one_bit (Err f) start (Err g) arm e = cc

conditional_is : (arms : Verdict (List GuardedArm)) (made : Verdict (List typed_arm.Guarded)) (own : Verdict (Unit {0})) (last : Verdict (Option Command))
    → made ≡ becomes (map typed_guarded) arms
    → ((these : List GuardedArm) → arms ≡ Ok these → own ≡ demands least (map one_bit these))
    → conditional_owing made own last ≡ conditional least arms last
unfolding conditional
conditional_is (Ok these) made own (Ok l) made_is own_is =
    ap (λ x. conditional_owing x own (Ok l)) made_is ∙ ap (becomes (λ _. action.If (map typed_guarded these) l)) (own_is these refl)
conditional_is (Ok these) made own (Err g) made_is own_is = ap (λ x. conditional_owing x own (Err g)) made_is
conditional_is (Err f) made own (Ok l) made_is own_is = ap (λ x. conditional_owing x own (Ok l)) made_is
conditional_is (Err f) made own (Err g) made_is own_is = ap (λ x. conditional_owing x own (Err g)) made_is

-- ---- `case`

new_labels-append : (width : ℕ) (seen : List ℕ) (xs ys : List LabelUse)
    → new_labels width seen (xs ++ ys) ≡ new_labels width seen xs ++ new_labels width (with_all_seen seen xs) ys
new_labels-append width seen [] ys = refl
new_labels-append width seen (x ∷ xs) ys = ap (λ z. new_label width seen x ∷ z) (new_labels-append width (with_seen seen x.value.bits) xs ys)

seen-append : (seen : List ℕ) (xs ys : List LabelUse) → with_all_seen seen (xs ++ ys) ≡ with_all_seen (with_all_seen seen xs) ys
seen-append seen [] ys = refl
seen-append seen (x ∷ xs) ys = seen-append (with_seen seen x.value.bits) xs ys

abbrev labels_in : List LabelledArm → List LabelUse
labels_in arms = flat_map (λ (a : LabelledArm). a.labels) arms

module _ {X Y : Type 0} (width : ℕ) (judged : X → Y) (right : Y → Verdict LabelledArm) (labels : X → Verdict (List LabelUse))
    (labels_are : (x : X) (arm : LabelledArm) → right (judged x) ≡ Ok arm → labels x ≡ Ok arm.labels)
  where
    -- these values were seen in those so far, and this is what their labels owe, where they are right
    abbrev OwingLabels : Verdict (List LabelledArm) → List ℕ → Verdict (Unit {0}) → Type 0
    OwingLabels done seen own =
        (arms : List LabelledArm) → done ≡ Ok arms → (own ≡ demands least (new_labels width [] (labels_in arms))) × (seen ≡ with_all_seen [] (labels_in arms))

    next_labels : (done : Verdict (List LabelledArm)) (next : Verdict LabelledArm) (mine : Verdict (List LabelUse)) (seen : List ℕ) (own : Verdict (Unit {0}))
        → OwingLabels done seen own → ((arm : LabelledArm) → next ≡ Ok arm → mine ≡ Ok arm.labels)
        → OwingLabels (with_next least done next) (seen_after seen mine) (and least own (labels_owe width seen mine))
    next_labels (Ok arms) (Ok arm) mine seen own before here more e =
        let same : arms ++ arm ∷ [] ≡ more = cc in
        let so_far = before arms refl in
        let all_labels : labels_in arms ++ arm.labels ≡ labels_in more = flat_map_more (λ (a : LabelledArm). a.labels) [] arms arm ∙ ap labels_in same in (
          ap (λ x. and least own (labels_owe width seen x)) (here arm refl)
              ∙ ap (λ x. and least x (demands least (new_labels width seen arm.labels))) so_far.0
              ∙ ap (λ x. and least (demands least (new_labels width [] (labels_in arms))) (demands least (new_labels width x arm.labels))) so_far.1
              ∙ sym (demands-append (new_labels width [] (labels_in arms)) (new_labels width (with_all_seen [] (labels_in arms)) arm.labels))
              ∙ ap (demands least) (sym (new_labels-append width [] (labels_in arms) arm.labels))
              ∙ ap (λ x. demands least (new_labels width [] x)) all_labels,
          ap (seen_after seen) (here arm refl)
              ∙ ap (λ x. with_all_seen x arm.labels) so_far.1
              ∙ sym (seen-append [] (labels_in arms) arm.labels)
              ∙ ap (with_all_seen []) all_labels,
        )
    next_labels (Ok arms) (Err g) mine seen own before here more e = cc
    next_labels (Err f) (Ok arm) mine seen own before here more e = cc
    next_labels (Err f) (Err g) mine seen own before here more e = cc

    more_labels : (done : Verdict (List LabelledArm)) (seen : List ℕ) (own : Verdict (Unit {0})) (xs : List X) → OwingLabels done seen own
        → (arms : List LabelledArm) → with_all least done (map right (map judged xs)) ≡ Ok arms
        → labels_owed width seen own (map labels xs) ≡ demands least (new_labels width [] (labels_in arms))
    more_labels done seen own [] before arms e = (before arms e).0
    more_labels done seen own (x ∷ xs) before arms e =
        more_labels (with_next least done (right (judged x))) (seen_after seen (labels x)) (and least own (labels_owe width seen (labels x))) xs
        (next_labels done (right (judged x)) (labels x) seen own before (labels_are x)) arms e

    all_labels_owe : (xs : List X) (arms : List LabelledArm) → all least (map right (map judged xs)) ≡ Ok arms
        → labels_owed width [] (Ok tt) (map labels xs) ≡ demands least (new_labels width [] (labels_in arms))
    all_labels_owe xs =
        more_labels (Ok []) [] (Ok tt) xs (λ arms e.
        let same : [] ≡ arms = cc in
        (ap (λ x. demands least (new_labels width [] (labels_in x))) same, ap (λ x. with_all_seen [] (labels_in x)) same))

labelled_made : (labels : Verdict (List LabelUse)) (body : Verdict Command)
    → becomes labelled_by (both least labels body) ≡ becomes typed_labelled (labelled least labels body)
unfolding labelled
labelled_made (Ok ls) (Ok b) = refl
labelled_made (Ok ls) (Err g) = refl
labelled_made (Err f) (Ok b) = refl
labelled_made (Err f) (Err g) = refl

labels_right : (labels : Verdict (List LabelUse)) (body : Verdict Command) (arm : LabelledArm) → labelled least labels body ≡ Ok arm → labels ≡ Ok arm.labels
unfolding labelled
labels_right (Ok ls) (Ok b) arm e =
    let same : ◌≡◌ {A = LabelledArm} (record { labels = ls; body = b }) arm = cc in
    ap (λ (a : LabelledArm). Ok a.labels) same
labels_right (Ok ls) (Err g) arm e = cc
labels_right (Err f) (Ok b) arm e = cc
labels_right (Err f) (Err g) arm e = cc

cased_is : (subject : Verdict Valued) (arms : Verdict (List LabelledArm)) (made : Verdict (List Labelled)) (own : Verdict (Unit {0})) (last : Verdict (Option Command))
    → made ≡ becomes (map typed_labelled) arms
    → ((these : List LabelledArm) → arms ≡ Ok these → own ≡ demands least (new_labels (width_of subject) [] (labels_in these)))
    → case_owing subject made own last ≡ cased least subject arms last
unfolding cased
cased_is (Ok v) (Ok these) made own (Ok l) made_is own_is =
    ap (λ x. case_owing (Ok v) x own (Ok l)) made_is ∙ ap (becomes (λ _. action.Case v.expression (map typed_labelled these) l)) (own_is these refl)
cased_is (Ok v) (Ok these) made own (Err g) made_is own_is = ap (λ x. case_owing (Ok v) x own (Err g)) made_is
cased_is (Ok v) (Err f) made own (Ok l) made_is own_is = ap (λ x. case_owing (Ok v) x own (Ok l)) made_is
cased_is (Ok v) (Err f) made own (Err g) made_is own_is = ap (λ x. case_owing (Ok v) x own (Err g)) made_is
cased_is (Err s) (Ok these) made own (Ok l) made_is own_is = ap (λ x. case_owing (Err s) x own (Ok l)) made_is
cased_is (Err s) (Ok these) made own (Err g) made_is own_is = ap (λ x. case_owing (Err s) x own (Err g)) made_is
cased_is (Err s) (Err f) made own (Ok l) made_is own_is = ap (λ x. case_owing (Err s) x own (Ok l)) made_is
cased_is (Err s) (Err f) made own (Err g) made_is own_is = ap (λ x. case_owing (Err s) x own (Err g)) made_is

-- ---- the arms of a command

module _ (scope : Scope) (opened : List Binding) where
  guarded_out : (a : Guarded)
      → judged_guarded least a scope opened ≡ guarded least (guard_of scope opened a) (start_of (out-Guarded a).guard) (judged_command least (out-Guarded a).body scope opened)
  guarded_out a = ap (λ f. f scope opened) (fold_out-Guarded _ _ _ _ _ (action_layer least) (arm_layer least) (case_arm_layer least) (command_layer least) (guarded_layer least) a)

  labelled_out : (a : CaseArm)
      → judged_labelled least a scope opened ≡ labelled least (labels_of scope opened a) (judged_command least (out-CaseArm a).body scope opened)
  labelled_out a = ap (λ f. f scope opened) (fold_out-CaseArm _ _ _ _ _ (action_layer least) (arm_layer least) (case_arm_layer least) (command_layer least) (guarded_layer least) a)

  pub if_is : (arms : List Guarded) (made : Verdict (List typed_arm.Guarded)) (own : Verdict (Unit {0})) (last : Verdict (Option Command))
      → made ≡ all least (map (guarded_arm scope opened) arms)
      → own ≡ demands least (map (guard_owed scope opened) arms)
      → conditional_owing made own last ≡ conditional least (each least (map (judged_guarded least) arms) scope opened) last
  if_is arms made own last made_is own_is =
      conditional_is (each least (map (judged_guarded least) arms) scope opened) made own last
      (made_is ∙ all_made (judged_guarded least) (λ f. f scope opened) (guarded_arm scope opened) typed_guarded
      (λ a. guarded_made (guard_of scope opened a) (start_of (out-Guarded a).guard) (judged_command least (out-Guarded a).body scope opened)
      ∙ ap (becomes typed_guarded) (sym (guarded_out a)))
      arms)
      (λ these e. own_is ∙ all_owe (judged_guarded least) (λ f. f scope opened) one_bit (guard_owed scope opened)
      (λ a arm is. guard_one_bit (guard_of scope opened a) (start_of (out-Guarded a).guard) (judged_command least (out-Guarded a).body scope opened) arm
      (sym (guarded_out a) ∙ is))
      arms these e)

  pub case_is : (arms : List CaseArm) (subject given : Verdict Valued) (width : ℕ) (made : Verdict (List Labelled)) (own : Verdict (Unit {0})) (last : Verdict (Option Command))
      → subject ≡ given
      → width ≡ width_of subject
      → made ≡ all least (map (labelled_arm scope opened) arms)
      → own ≡ labels_owed width [] (Ok tt) (map (labels_of scope opened) arms)
      → case_owing subject made own last ≡ cased least given (each least (map (judged_labelled least) arms) scope opened) last
  case_is arms subject given width made own last subject_is width_is made_is own_is =
      cased_is subject (each least (map (judged_labelled least) arms) scope opened) made own last
      (made_is ∙ all_made (judged_labelled least) (λ f. f scope opened) (labelled_arm scope opened) typed_labelled
      (λ a. labelled_made (labels_of scope opened a) (judged_command least (out-CaseArm a).body scope opened)
      ∙ ap (becomes typed_labelled) (sym (labelled_out a)))
      arms)
      (λ these e. own_is ∙ ap (λ w. labels_owed w [] (Ok tt) (map (labels_of scope opened) arms)) width_is
      ∙ all_labels_owe (width_of subject) (judged_labelled least) (λ f. f scope opened) (labels_of scope opened)
      (λ a arm is. labels_right (labels_of scope opened a) (judged_command least (out-CaseArm a).body scope opened) arm (sym (labelled_out a) ∙ is))
      arms these e)
      ∙ ap (λ s. cased least s (each least (map (judged_labelled least) arms) scope opened) last) subject_is
