use Rattle.std.proofs.Common.{List, take, subst, sym, arith}
use Rattle.address.specs.declared.Entry.{Entry}
use Rattle.runs.specs.declared.event.Event.{Event}
use Rattle.calculus.specs.internal.Comparing.{Indexes, PutAt}
use Rattle.calculus.proofs.IndexLaws.{indexes-more}
use Rattle.calculus.proofs.ListPlaces.{item-got, taken-more, taken-length}
use Rattle.calculus.proofs.index.Index.of.Goals as goal

pub loop-place-preserved : goal.loop-place-preserved
loop-place-preserved c =
    let x = c.index-events-place.result in
    let i = c.loop-place.place in
    let at = item-got c.args.events.now i x c.loop-place-test.true c.index-events-place.is in
    subst (λ (h : List Event). Indexes c.put.new.self h) (sym (taken-more c.args.events.now i x at))
    (indexes-more c.loop-place.index c.put.new.self (take i c.args.events.now) x i (sym (taken-length c.args.events.now i (omega (arith, c.loop-place-test.true))))
    c.loop-place.invariant (subst (λ (a : List Entry). PutAt c.loop-place.index a i c.put.new.self) c.acting_place.ensures c.in_ok-put.ensures))
