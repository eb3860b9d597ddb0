use Rattle.std.proofs.Common.{List, [], ◌∷◌, get_or, refl, sym, ap}
use Rattle.std.specs.Prelude.{reverse}
use Rattle.address.specs.declared.Entry.{Entry}
use Rattle.rings.specs.declared.sought.Sought.{Sought}
use Rattle.rings.specs.declared.sought.Sought.TheVariants as sought
use Rattle.rings.specs.internal.Placed.{placed}
use Rattle.rings.specs.internal.Ends.{all_here, within}
use Rattle.rings.proofs.Added.{some-added, all-added}
use Rattle.rings.proofs.ends.add_each_here.Goals as goal

pub loop-sought-preserved : goal.loop-sought-preserved
loop-sought-preserved c =
    let one : Sought = get_or c.args.soughts.now c.loop-sought.sought-index (sought.Receiver 0) in
    some-added (λ (ss : List Sought). all_here c.args.kind (within ss)) c.loop-sought.ends.items c.push.new.self.items (placed one (reverse c.new.result.items) c.args.kind ∷ []) _
    c.args.soughts.now c.loop-sought.sought-index (sought.Receiver 0) one c.loop-sought-test.true refl c.in_ok-push.ensures.items
    (λ rest. ap (λ (way : List Entry). placed one way c.args.kind ∷ all_here c.args.kind (within rest)) (sym (ap reverse c.new.ensures.items))) c.loop-sought.invariant

pub returns : goal.returns
returns c =
    all-added (λ (ss : List Sought). all_here c.args.kind (within ss)) c.loop-sought.ends.items _ c.args.soughts.now c.loop-sought.sought-index c.loop-sought-test.false refl
    c.loop-sought.invariant
