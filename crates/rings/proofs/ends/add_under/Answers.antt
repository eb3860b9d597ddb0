use Rattle.std.proofs.Common.{◌∙◌, [], ◌∷◌, ◌++◌, refl, sym, ap}
use Rattle.std.specs.Vec.Iter.{into_iter_items}
use Rattle.rings.specs.internal.Placed.{Placed}
use Rattle.rings.specs.internal.Ends.{farther, under}
use Rattle.rings.proofs.Added.{all-taken, part-taken}
use Rattle.rings.proofs.ends.add_under.Goals as goal

pub loop-other-preserved : goal.loop-other-preserved
loop-other-preserved c =
    part-taken (under c.args.entry) c.loop-other.ends.items c.push.new.self.items _ (into_iter_items c.loop-other.other-iterator) (into_iter_items c.next.new.self) c.in-Some.other
    (farther c.args.entry c.in-Some.other) c.in-Some.ensures.steps.0
    (c.in_ok-push.ensures.items ∙ ap (λ (z : Placed). c.loop-other.ends.items ++ z ∷ []) c.in_ok-farther.ensures) refl c.loop-other.invariant

pub returns : goal.returns
returns c =
    all-taken (under c.args.entry) c.loop-other.ends.items _ (into_iter_items c.loop-other.other-iterator)
    (sym c.loop-other.other-iterator.rest.ok.0 ∙ c.in-None.ensures.steps.0) refl c.loop-other.invariant
