use Rattle.std.proofs.Common.{[], ◌∷◌, refl, sym, ap}
use Rattle.rings.specs.declared.sought.Sought.{Sought}
use Rattle.rings.specs.internal.Placed.{Placed}
use Rattle.rings.specs.internal.Ends.{soughts}
use Rattle.rings.proofs.Added.{some-added, all-added}
use Rattle.rings.proofs.ends.add_soughts.Goals as goal

pub loop-end-preserved : goal.loop-end-preserved
loop-end-preserved c =
    some-added soughts c.loop-end.soughts.items c.push.new.self.items (c.end.inside.sought ∷ []) _ c.args.ends.now c.loop-end.end-index c.end-item.result c.end-item.result
    c.loop-end-test.true c.end-item.is c.in_ok-push.ensures.items
    (λ rest. ap (λ (s : Sought). s ∷ soughts rest) (sym (ap (λ (p : Placed). p.sought) c.end.view_is))) c.loop-end.invariant

pub returns : goal.returns
returns c = all-added soughts c.loop-end.soughts.items _ c.args.ends.now c.loop-end.end-index c.loop-end-test.false refl c.loop-end.invariant
