use Rattle.std.proofs.Common.{◌≤◌, ◌<◌, ◌+◌, ◌-◌, ◌/◌, ℕ, length, map, subst, arith}
use Rattle.dependence.proofs.SearchLaws.{narrowed-shares, narrowed-up, narrowed-down, place-read, length-places, min-first, min-second}
use Rattle.dependence.proofs.search.count_by_halves.Goals as goal

pub fork-parted-requires : goal.fork-parted-requires
fork-parted-requires g c =
    let order : c.loop-low.low ≤ c.loop-low.high = c.loop-low.invariant.narrowed.order in
    let within : c.loop-low.high ≤ length c.args.seats.now =
    subst (λ (k : ℕ). c.loop-low.high ≤ k) (length-places g.T.Placed.place c.args.seats.now) c.loop-low.invariant.narrowed.within in
    let test : c.loop-low.low < c.loop-low.high = omega (arith, c.loop-low-test.true) in
    let from : c.loop-low.low ≤ c.loop-low.low + (c.loop-low.high - c.loop-low.low) / 2 = omega arith in
    let under : c.loop-low.low + (c.loop-low.high - c.loop-low.low) / 2 < c.loop-low.high = omega arith in
    narrowed-shares (map g.T.Placed.place c.args.seats.now) c.args.place.now c.loop-low.low c.loop-low.high c.loop-low.low_shared c.loop-low.high_shared
    (c.loop-low.low + (c.loop-low.high - c.loop-low.low) / 2) c.min.result c.place-seat.result.now c.loop-low.invariant.narrowed from under
    (min-first c.loop-low.low_shared c.loop-low.high_shared c.min.result c.min.ensures) (min-second c.loop-low.low_shared c.loop-low.high_shared c.min.result c.min.ensures)
    (place-read g.T.Placed.place c.args.seats.now (c.loop-low.low + (c.loop-low.high - c.loop-low.low) / 2) c.index-seats-middle.result c.place-seat.result.now
    (omega arith) c.index-seats-middle.is c.place-seat.ensures)

pub loop-low-preserved-then-is_less : goal.loop-low-preserved-then-is_less
loop-low-preserved-then-is_less g c =
    let order : c.loop-low.low ≤ c.loop-low.high = c.loop-low.invariant.narrowed.order in
    let within : c.loop-low.high ≤ length c.args.seats.now =
    subst (λ (k : ℕ). c.loop-low.high ≤ k) (length-places g.T.Placed.place c.args.seats.now) c.loop-low.invariant.narrowed.within in
    let test : c.loop-low.low < c.loop-low.high = omega (arith, c.loop-low-test.true) in
    let from : c.loop-low.low ≤ c.loop-low.low + (c.loop-low.high - c.loop-low.low) / 2 = omega arith in
    let under : c.loop-low.low + (c.loop-low.high - c.loop-low.low) / 2 < c.loop-low.high = omega arith in
    record {
      narrowed =
          narrowed-up (map g.T.Placed.place c.args.seats.now) c.args.place.now c.loop-low.low c.loop-low.high c.loop-low.low_shared c.loop-low.high_shared
          (c.loop-low.low + (c.loop-low.high - c.loop-low.low) / 2) c.fork-parted.result (c.loop-low.low + (c.loop-low.high - c.loop-low.low) / 2 + 1) c.place-seat.result.now
          c.is_less.result c.requires c.loop-low.invariant.narrowed from under
          (place-read g.T.Placed.place c.args.seats.now (c.loop-low.low + (c.loop-low.high - c.loop-low.low) / 2) c.index-seats-middle.result c.place-seat.result.now
          (omega arith) c.index-seats-middle.is c.place-seat.ensures)
          c.fork-parted.ensures c.is_less.ensures c.if-is_less.true (omega arith);
    }

pub loop-low-preserved : goal.loop-low-preserved
loop-low-preserved g c =
    let order : c.loop-low.low ≤ c.loop-low.high = c.loop-low.invariant.narrowed.order in
    let within : c.loop-low.high ≤ length c.args.seats.now =
    subst (λ (k : ℕ). c.loop-low.high ≤ k) (length-places g.T.Placed.place c.args.seats.now) c.loop-low.invariant.narrowed.within in
    let test : c.loop-low.low < c.loop-low.high = omega (arith, c.loop-low-test.true) in
    let from : c.loop-low.low ≤ c.loop-low.low + (c.loop-low.high - c.loop-low.low) / 2 = omega arith in
    let under : c.loop-low.low + (c.loop-low.high - c.loop-low.low) / 2 < c.loop-low.high = omega arith in
    record {
      narrowed =
          narrowed-down (map g.T.Placed.place c.args.seats.now) c.args.place.now c.loop-low.low c.loop-low.high c.loop-low.low_shared c.loop-low.high_shared
          (c.loop-low.low + (c.loop-low.high - c.loop-low.low) / 2) c.fork-parted.result c.place-seat.result.now c.is_less.result c.requires c.loop-low.invariant.narrowed from under
          (place-read g.T.Placed.place c.args.seats.now (c.loop-low.low + (c.loop-low.high - c.loop-low.low) / 2) c.index-seats-middle.result c.place-seat.result.now
          (omega arith) c.index-seats-middle.is c.place-seat.ensures)
          c.fork-parted.ensures c.is_less.ensures c.if-is_less.false;
    }
