use Rattle.std.proofs.Common.{ℕ, ◌⊎◌, ◌↔◌, List, subst, ◌<◌, ◌≡◌, length, arith}
use Rattle.std.proofs.lemmas.Option.{slice_get_within}
use Rattle.syntax.specs.Lists.{In}
use Rattle.dependence.specs.internal.Marking.{MarkedAt}
use Rattle.dependence.proofs.public.ListPlaces.{in-read, take-all}
use Rattle.dependence.proofs.public.Markings.{marked-next}
use Rattle.past.proofs.sweep.mark_all.Goals as goal

pub index_of_live-index-requires : goal.index_of_live-index-requires
index_of_live-index-requires c = c.requires.live _ (in-read c.args.tickets.now c.loop-ticket.ticket-index c.loop-ticket-test.true)

pub bounds-marks-index : goal.bounds-marks-index
bounds-marks-index c =
    let at = c.index_of_live-index.ensures in
    let within : c.index_of_live-index.result < length c.args.live.now.live = slice_get_within c.args.live.now.live c.index_of_live-index.result _ at.1 in
    omega arith

pub loop-ticket-preserved : goal.loop-ticket-preserved
loop-ticket-preserved c =
    let at = c.index_of_live-index.ensures in
    let size : length c.loop-ticket.marks ≡ length c.args.live.now.live = omega arith in
    marked-next c.args.live.now.live c.args.marks.now c.loop-ticket.marks c.args.tickets.now c.loop-ticket.ticket-index c.index_of_live-index.result at.0 c.requires.rising
    size c.loop-ticket-test.true at.1 c.loop-ticket.invariant

pub returns : goal.returns
returns c =
    subst (λ (k : List ℕ). (u : ℕ) → MarkedAt c.args.live.now.live c.loop-ticket.marks u ↔ (MarkedAt c.args.live.now.live c.args.marks.now u ⊎ In u k))
    (take-all c.args.tickets.now c.loop-ticket.ticket-index c.loop-ticket-test.false) c.loop-ticket.invariant
