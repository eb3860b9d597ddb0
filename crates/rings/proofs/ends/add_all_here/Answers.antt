use Rattle.std.proofs.Common.{List, [], ◌∷◌, refl, sym, ap, ap₂}
use Rattle.std.specs.Prelude.{reverse}
use Rattle.address.specs.declared.Entry.{Entry}
use Rattle.rings.specs.declared.sought.Sought.{Sought}
use Rattle.rings.specs.internal.Placed.{Placed, placed}
use Rattle.rings.specs.internal.Ends.{all_here}
use Rattle.rings.proofs.Added.{some-added, all-added}
use Rattle.rings.proofs.ends.add_all_here.Goals as goal

pub loop-other-preserved : goal.loop-other-preserved
loop-other-preserved c =
    some-added (all_here c.args.kind) c.loop-other.ends.items c.push.new.self.items (placed c.other.inside.sought (reverse c.new.result.items) c.args.kind ∷ []) _ c.args.others.now
    c.loop-other.other-index c.other-item.result c.other-item.result c.loop-other-test.true c.other-item.is c.in_ok-push.ensures.items
    (λ rest. ap₂ (λ (s : Sought) (way : List Entry). placed s way c.args.kind ∷ all_here c.args.kind rest) (sym (ap (λ (p : Placed). p.sought) c.other.view_is))
    (sym (ap reverse c.new.ensures.items))) c.loop-other.invariant

pub returns : goal.returns
returns c = all-added (all_here c.args.kind) c.loop-other.ends.items _ c.args.others.now c.loop-other.other-index c.loop-other-test.false refl c.loop-other.invariant
