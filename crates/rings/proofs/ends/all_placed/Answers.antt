use Rattle.std.proofs.Common.{◌∙◌, List, [], ◌∷◌, ◌++◌, refl, sym, ap}
use Rattle.std.specs.Vec.Iter.{into_iter_items}
use Rattle.rings.specs.internal.Placed.{Placed}
use Rattle.rings.proofs.Added.{all-taken, part-taken}
use Rattle.rings.proofs.ends.all_placed.Goals as goal

pub returns : goal.returns
returns c =
    all-taken (λ (es : List Placed). es) c.loop-one.ends.items _ (into_iter_items c.loop-one.one-iterator)
    (sym c.loop-one.one-iterator.rest.ok.0 ∙ c.in-None.ensures.steps.0) refl c.loop-one.invariant

pub loop-one-preserved : goal.loop-one-preserved
loop-one-preserved c =
    part-taken (λ (es : List Placed). es) c.loop-one.ends.items c.push.new.self.items _ (into_iter_items c.loop-one.one-iterator) (into_iter_items c.next.new.self) c.in-Some.one
    c.in-Some.one c.in-Some.ensures.steps.0
    (c.in_ok-push.ensures.items ∙ ap (λ (z : Placed). c.loop-one.ends.items ++ z ∷ []) c.one_placed.ensures) refl c.loop-one.invariant
