use Rattle.std.proofs.Common.{List, length, subst}
use Rattle.run_depths.specs.internal.Held.{AreReaches}
use Rattle.run_depths.specs.declared.held.HeldPlace.{HeldPlace}
use Rattle.run_depths.proofs.HeldLaws.{held-moved}
use Rattle.run_depths.proofs.held.held_places.Goals as goal

pub returns : goal.returns
returns c =
    let ps = c.put_in_order.new.places.items in
    record {
      all = held-moved c.args.live.now.live c.args.depths.now (length c.args.live.now.live) c.in_ok-places.places.items ps c.in_ok-put_in_order.ensures.moved
          c.in_ok-places.ensures;
      order = record {
        ordered = c.in_ok-put_in_order.ensures.ordered;
        reaches = subst (λ (qs : List HeldPlace). AreReaches qs c.in_ok-reaches.reaches.items) c.as_slice.ensures.value c.in_ok-reaches.ensures;
      };
    }
