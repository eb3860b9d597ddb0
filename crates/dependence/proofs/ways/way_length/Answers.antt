use Rattle.std.proofs.Common.{◌≡◌, ◌<◌, ◌+◌, ℕ, suc, true, false, length, take, drop, slice_get, sym, subst, ◌∙◌, arith}
use Rattle.dependence.specs.internal.Forks.{is_ordered_entry}
use Rattle.dependence.specs.internal.Seats.{way_of, rest_of, AllOrdered}
use Rattle.dependence.proofs.WayLaws.{one-more, within-more, way-ends, rest-begins, way-whole, rest-none}
use Rattle.dependence.proofs.ways.way_length.Goals as goal

pub loop-count-preserved : goal.loop-count-preserved
loop-count-preserved c =
    let is : is_ordered_entry (slice_get c.args.place.now c.loop-count.count) ≡ true = sym c.is_ordered.ensures ∙ c.loop-count-test.true in
    let less : c.loop-count.count < length c.args.place.now = within-more c.args.place.now c.loop-count.count is in
    let next : suc c.loop-count.count ≡ c.loop-count.count + 1 = omega arith in
    record {
      within = omega arith;
      ordered = subst (λ (k : ℕ). AllOrdered (take k c.args.place.now)) next (one-more c.args.place.now c.loop-count.count c.loop-count.invariant.ordered is);
    }

pub returns-then-count-place-clause-way : goal.returns-then-count-place-clause-way
returns-then-count-place-clause-way c =
    let is : is_ordered_entry (slice_get c.args.place.now c.loop-count.count) ≡ false = sym c.is_ordered.ensures ∙ c.loop-count-test.false in
    let less : c.loop-count.count < length c.args.place.now = omega (arith, c.if-count-place.true) in
    let next : suc c.loop-count.count ≡ c.loop-count.count + 1 = omega arith in
    subst (λ (k : ℕ). take k c.args.place.now ≡ way_of c.args.place.now) next (way-ends c.args.place.now c.loop-count.count c.loop-count.invariant.ordered less is)

pub returns-then-count-place-clause-rest : goal.returns-then-count-place-clause-rest
returns-then-count-place-clause-rest c =
    let is : is_ordered_entry (slice_get c.args.place.now c.loop-count.count) ≡ false = sym c.is_ordered.ensures ∙ c.loop-count-test.false in
    let less : c.loop-count.count < length c.args.place.now = omega (arith, c.if-count-place.true) in
    let next : suc c.loop-count.count ≡ c.loop-count.count + 1 = omega arith in
    subst (λ (k : ℕ). drop k c.args.place.now ≡ rest_of c.args.place.now) next (rest-begins c.args.place.now c.loop-count.count c.loop-count.invariant.ordered less is)

pub returns-else-count-place-clause-way : goal.returns-else-count-place-clause-way
returns-else-count-place-clause-way c = way-whole c.args.place.now c.loop-count.count c.loop-count.invariant.ordered (omega (arith, c.if-count-place.false))

pub returns-else-count-place-clause-rest : goal.returns-else-count-place-clause-rest
returns-else-count-place-clause-rest c = rest-none c.args.place.now c.loop-count.count c.loop-count.invariant.ordered (omega (arith, c.if-count-place.false))
