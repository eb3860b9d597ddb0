use Rattle.std.proofs.Common.{◌≡◌, ◌<◌, ℕ, suc, List, Bool, true, length, get_or, sym, subst, arith}
use Rattle.std.specs.Prelude.{◌⊎◌, ◌↔◌, slice_set}
use Rattle.std.proofs.lemmas.Option.{slice_get_within}
use Rattle.syntax.specs.Lists.{In}
use Rattle.dependence.specs.internal.Marking.{MarkedAt, EndsAt}
use Rattle.dependence.proofs.MarkEnds.{ends-within, ends-beyond}
use Rattle.dependence.proofs.public.ListPlaces.{in-read, take-all}
use Rattle.dependence.proofs.public.Markings.{marked-next}
use Rattle.dependence.proofs.marks.mark_all.Goals as goal
use Rattle.dependence.proofs.marks.mark_all.Goals.{then-reached-index, else-reached-index}

pub index_of_live-index-requires : goal.index_of_live-index-requires
index_of_live-index-requires c =
    c.requires.live (get_or c.args.tickets.now c.loop-ticket.ticket-index 0) (in-read c.args.tickets.now c.loop-ticket.ticket-index c.loop-ticket-test.true)

pub bounds-marks-index : goal.bounds-marks-index
bounds-marks-index c =
    let within = slice_get_within c.args.list.now.live c.index_of_live-index.result _ c.index_of_live-index.ensures.1 in
    omega (arith, c.requires.size, c.loop-ticket.auto.marks)

pub overflow_add-reached : goal.overflow_add-reached
overflow_add-reached c =
    let within = slice_get_within c.args.list.now.live c.index_of_live-index.result _ c.index_of_live-index.ensures.1 in
    let len = c.len-len.ensures.events in
    let fits = c.len-len.type_inv in
    omega arith

pub loop-ticket-preserved : goal.loop-ticket-preserved
loop-ticket-preserved c =
    let index : ℕ = c.index_of_live-index.result in
    let within = slice_get_within c.args.list.now.live index _ c.index_of_live-index.ensures.1 in
    let size : length c.loop-ticket.marks ≡ length c.args.list.now.live = omega (arith, c.requires.size, c.loop-ticket.auto.marks) in
    let less : index < length c.loop-ticket.marks = omega arith in
    let marked : List Bool = slice_set c.loop-ticket.marks index true in
    record {
      marked = marked-next c.args.list.now.live c.args.marks.now c.loop-ticket.marks c.args.tickets.now c.loop-ticket.ticket-index index c.index_of_live-index.ensures.0
          c.requires.rising size c.loop-ticket-test.true c.index_of_live-index.ensures.1 c.loop-ticket.invariant.marked;
      ended = elim c.if-reached-index.branch [
        | then-reached-index w ↦
            let next : c.if-reached-index.reached ≡ suc index = omega (arith, w.reached-is) in
            ends-beyond c.loop-ticket.marks index c.loop-ticket.reached c.if-reached-index.reached next less w.if-reached-index.true c.loop-ticket.invariant.ended
        | else-reached-index w ↦
            subst (λ (n : ℕ). EndsAt marked n) (sym w.reached-is)
            (ends-within c.loop-ticket.marks index c.loop-ticket.reached less w.if-reached-index.false c.loop-ticket.invariant.ended)
      ];
    }

pub returns-clause-marked : goal.returns-clause-marked
returns-clause-marked c =
    let all = take-all c.args.tickets.now c.loop-ticket.ticket-index c.loop-ticket-test.false in
    λ u.
    subst (λ (ts : List ℕ). MarkedAt c.args.list.now.live c.loop-ticket.marks u ↔ (MarkedAt c.args.list.now.live c.args.marks.now u ⊎ In u ts)) all (c.loop-ticket.invariant.marked u)
