-- Children are counted from 0 on, and what stands behind an `else` behind all arms.
use Rattle.std.proofs.Common.{◌≡◌, ◌∙◌, ◌++◌, List, Option, length, map, sym, ap, rules}
use Rattle.std.proofs.lemmas.List.{append_assoc, length-map}
use Rattle.std.proofs.lemmas.Result.{on_ok_weaker}
use Rattle.std.specs.Option.{option_map}
use Rattle.address.specs.declared.Entry.TheVariants.{Ordered, Branch}
use Rattle.system.specs.declared.command.Guarded.{Guarded}
use Rattle.system.specs.declared.command.Labelled.{Labelled}
use Rattle.system.specs.declared.command.Action.TheFolds.{the_lemmas}
use Rattle.sharing_check.specs.Uses.{VariableUse, numbered, reads, uses_of, with_last}
use Rattle.clash_places.specs.Parts.{uses_of_arm, uses_of_guarded, uses_of_labelled}
use Rattle.clash_places.proofs.Numbered.{from-is, with-last}
use Rattle.clash_places.proofs.uses.+uses.Goals as goal

pub add_sequence-loop-index-init : goal.add_sequence-loop-index-init
add_sequence-loop-index-init t c = ap (λ (x : List VariableUse). c.args.uses.now.items ++ x) (from-is Ordered 0 (map uses_of c.args.children.now))

pub add_branches-loop-index-init : goal.add_branches-loop-index-init
add_branches-loop-index-init t c = ap (λ (x : List VariableUse). c.args.uses.now.items ++ x) (from-is Branch 0 (map uses_of c.args.children.now))

pub add_arms-loop-index-init : goal.add_arms-loop-index-init
add_arms-loop-index-init t c = ap (λ (x : List VariableUse). c.args.uses.now.items ++ x) (from-is Ordered 0 (map uses_of_arm c.args.arms.now))

pub add_labelled-loop-index-init : goal.add_labelled-loop-index-init
add_labelled-loop-index-init t c = ap (λ (x : List VariableUse). c.args.uses.now.items ++ x) (from-is Ordered 0 (map uses_of_labelled c.args.arms.now))

pub add_guarded-loop-index-init : goal.add_guarded-loop-index-init
add_guarded-loop-index-init t c = ap (λ (x : List VariableUse). c.args.uses.now.items ++ x) (from-is Ordered 0 (map uses_of_guarded c.args.arms.now))

pub add_uses-returns-in_ok-add_guarded-in-If : goal.add_uses-returns-in_ok-add_guarded-in-If
add_uses-returns-in_ok-add_guarded-in-If t c =
    let us : List VariableUse = c.args.uses.now.items in
    let parts : List (List VariableUse) = map uses_of_guarded c.in-If.arms in
    let behind : Option (List VariableUse) = option_map uses_of c.in-If.last in
    let folded : uses_of c.args.command.now ≡ numbered Ordered 0 (with_last parts behind) = first_of (search rules, search (rules, the_lemmas)) in
    let arms : c.add_guarded.new.uses.items ≡ us ++ numbered Ordered 0 parts =
    c.in_ok-add_guarded-in-If.ensures ∙ ap (λ (xs : List Guarded). us ++ numbered Ordered 0 (map uses_of_guarded xs)) c.as_slice.ensures in
    let many : c.len.result ≡ length parts = c.len.ensures ∙ sym (length-map c.in-If.arms uses_of_guarded) in
    on_ok_weaker c.add_last.result (λ is. with-last us _ _ parts behind c.len.result arms many is ∙ sym (ap (λ (x : List VariableUse). us ++ x) folded)) c.add_last.ensures

pub add_uses-returns-in_ok-add_labelled-in-Case : goal.add_uses-returns-in_ok-add_labelled-in-Case
add_uses-returns-in_ok-add_labelled-in-Case t c =
    let us : List VariableUse = c.args.uses.now.items in
    let read : List VariableUse = reads c.in-Case.subject in
    let parts : List (List VariableUse) = map uses_of_labelled c.in-Case.arms in
    let behind : Option (List VariableUse) = option_map uses_of c.in-Case.last in
    let folded : uses_of c.args.command.now ≡ read ++ numbered Ordered 0 (with_last parts behind) = first_of (search rules, search (rules, the_lemmas)) in
    let arms : c.add_labelled.new.uses.items ≡ us ++ read ++ numbered Ordered 0 parts =
    c.in_ok-add_labelled-in-Case.ensures ∙ ap (λ (xs : List Labelled). c.add_reads-in-Case.new.uses.items ++ numbered Ordered 0 (map uses_of_labelled xs)) c.as_slice-in-Case.ensures
    ∙ ap (λ (x : List VariableUse). x ++ numbered Ordered 0 parts) c.in_ok-add_reads-in-Case.ensures in
    let many : c.len-in-Case.result ≡ length parts = c.len-in-Case.ensures ∙ sym (length-map c.in-Case.arms uses_of_labelled) in
    on_ok_weaker c.add_last-in-Case.result
    (λ is. with-last (us ++ read) _ _ parts behind c.len-in-Case.result arms many is ∙ append_assoc us read (numbered Ordered 0 (with_last parts behind))
    ∙ sym (ap (λ (x : List VariableUse). us ++ x) folded)) c.add_last-in-Case.ensures
