use Rattle.std.proofs.Common.{◌≡◌, ◌≢◌, None, Some, List, [], ◌∷◌, ◌++◌, true≢false, sym, ap, ◌∙◌}
use Rattle.std.proofs.lemmas.Slice.Eq.{strip_prefix_is}
use Rattle.address.specs.declared.Entry.{Entry}
use Rattle.address.specs.declared.Entry.TheVariants.{Ordered}
use Rattle.address.proofs.public.Entries.{entry_eq-Decides}
use Rattle.dependence.proofs.WayLaws.{same-rest}
use Rattle.dependence.proofs.children.is_first_child.Goals as goal

pub returns-in-Some : goal.returns-in-Some
returns-in-Some c =
    let p : List Entry = c.args.parent.now in let way : List Entry = c.in-Some.way.now in
    let split : c.args.place.now ≡ p ++ way = strip_prefix_is entry_eq-Decides _ p (Some c.in-Some.way) c.in-Some.ensures.cases in
    (λ is. split ∙ ap (λ (w : List Entry). p ++ w) (c.is_first.ensures.0 is), λ is. c.is_first.ensures.1 (same-rest p way (Ordered 0 ∷ []) (sym split ∙ is)))

pub returns-in-None : goal.returns-in-None
returns-in-None c =
    let never : (way : List Entry) → c.args.place.now ≢ c.args.parent.now ++ way =
    strip_prefix_is entry_eq-Decides _ c.args.parent.now None c.in-None.ensures.cases in
    (λ is. absurd (true≢false (sym is)), λ is. absurd (never (Ordered 0 ∷ []) is))
