use Rattle.std.proofs.Common.{◌<◌, ◌≤◌, ◌+◌, ℕ, List, length, get_or, refl, sym, subst, arith}
use Rattle.syntax.specs.Lists.{In}
use Rattle.dependence.specs.internal.Sweeping.{FlagAt}
use Rattle.dependence.proofs.public.ListPlaces.{in-read, none-more, take-all}
use Rattle.dependence.proofs.Sweeps.{flag-at, last-below, none-above, not-both, stands-below}
use Rattle.dependence.proofs.topmost.is_flagged.Goals as goal

pub index_of_live-index-requires : goal.index_of_live-index-requires
index_of_live-index-requires c = c.requires.live _ (in-read c.args.tickets.now c.loop-ticket.ticket-index c.loop-ticket-test.true)

pub overflow_sub-high : goal.overflow_sub-high
overflow_sub-high c =
    let at = c.index_of_live-index.ensures in
    let below : c.index_of_live-index.result < c.args.high =
    stands-below 0 c.requires.rising.0 c.args.list.now.live c.args.high c.index_of_live-index.result _ at.0 _ c.requires.rising.1 c.requires.some
    c.requires.last.1 at.1 c.if-ticket-last.false in
    omega arith

pub overflow_sub-high-in-loop-ticket : goal.overflow_sub-high-in-loop-ticket
overflow_sub-high-in-loop-ticket c =
    let at = c.index_of_live-index.ensures in
    let below : c.index_of_live-index.result < c.args.high =
    stands-below 0 c.requires.rising.0 c.args.list.now.live c.args.high c.index_of_live-index.result _ at.0 _ c.requires.rising.1 c.requires.some
    c.requires.last.1 at.1 c.if-ticket-last.false in
    omega arith

pub bounds-flags-high : goal.bounds-flags-high
bounds-flags-high c =
    let at = c.index_of_live-index.ensures in
    let below : c.index_of_live-index.result < c.args.high =
    stands-below 0 c.requires.rising.0 c.args.list.now.live c.args.high c.index_of_live-index.result _ at.0 _ c.requires.rising.1 c.requires.some
    c.requires.last.1 at.1 c.if-ticket-last.false in
    let room : c.args.high ≤ c.index_of_live-index.result + length c.args.flags.now =
    c.requires.passed _ c.index_of_live-index.result (in-read c.args.tickets.now c.loop-ticket.ticket-index c.loop-ticket-test.true) at in
    omega arith

pub loop-ticket-preserved : goal.loop-ticket-preserved
loop-ticket-preserved c =
    let at = c.index_of_live-index.ensures in
    let below : c.index_of_live-index.result < c.args.high =
    stands-below 0 c.requires.rising.0 c.args.list.now.live c.args.high c.index_of_live-index.result _ at.0 _ c.requires.rising.1 c.requires.some
    c.requires.last.1 at.1 c.if-ticket-last.false in
    none-more (FlagAt c.args.list.now.live c.args.high c.args.flags.now) c.args.tickets.now c.loop-ticket.ticket-index c.loop-ticket-test.true
    (λ flag. not-both _
    ((flag-at 0 c.requires.rising.0 c.args.list.now.live c.args.high c.args.flags.now _ c.index_of_live-index.result at.0 _ c.requires.rising.1 at.1 below
    (c.requires.passed _ c.index_of_live-index.result (in-read c.args.tickets.now c.loop-ticket.ticket-index c.loop-ticket-test.true) at)).1 flag)
    c.if-flags-high.false)
    c.loop-ticket.invariant

pub returns-then-ticket-last : goal.returns-then-ticket-last
returns-then-ticket-last c = (
  (λ on. cc),
  (λ h. absurd (none-above 0 c.requires.rising.0 c.args.list.now.live c.args.high c.args.flags.now c.args.tickets.now c.loop-ticket.ticket-index _
      c.requires.rising.1 c.requires.ascending c.loop-ticket-test.true c.requires.some
      c.requires.last.1 c.if-ticket-last.true c.loop-ticket.invariant h.0 h.1 h.2)),
)

pub returns-then-flags-high : goal.returns-then-flags-high
returns-then-flags-high c =
    let at = c.index_of_live-index.ensures in
    let below : c.index_of_live-index.result < c.args.high =
    stands-below 0 c.requires.rising.0 c.args.list.now.live c.args.high c.index_of_live-index.result _ at.0 _ c.requires.rising.1 c.requires.some
    c.requires.last.1 at.1 c.if-ticket-last.false in (
      (λ on. (
        get_or c.args.tickets.now c.loop-ticket.ticket-index 0,
        in-read c.args.tickets.now c.loop-ticket.ticket-index c.loop-ticket-test.true,
        (flag-at 0 c.requires.rising.0 c.args.list.now.live c.args.high c.args.flags.now _ c.index_of_live-index.result at.0 _ c.requires.rising.1 at.1 below
            (c.requires.passed _ c.index_of_live-index.result (in-read c.args.tickets.now c.loop-ticket.ticket-index c.loop-ticket-test.true) at)).0 c.if-flags-high.true,
      )),
      (λ h. refl),
    )

pub returns : goal.returns
returns c = (
  (λ on. cc),
  (λ h. absurd (c.loop-ticket.invariant h.0
      (subst (λ (k : List ℕ). In h.0 k) (sym (take-all c.args.tickets.now c.loop-ticket.ticket-index c.loop-ticket-test.false)) h.1) h.2)),
)
