use Rattle.std.proofs.Common.{◌≡◌, ◌<◌, ◌+◌, ◌-◌, ◌∙◌, ℕ, suc, List, Bool, true, Some, length, drop, get_or, sym, ap, subst, arith}
use Rattle.std.specs.Prelude.{◌⊎◌, ◌↔◌, slice_get, slice_set}
use Rattle.std.proofs.lemmas.Option.{slice_get_within}
use Rattle.syntax.specs.Lists.{In}
use Rattle.slots.specs.Places.{Places}
use Rattle.runs.specs.Live.{Live}
use Rattle.dependence.specs.declared.kept.Kept.{Kept}
use Rattle.dependence.specs.internal.Listed.{seats}
use Rattle.dependence.specs.internal.Marking.{MarkedAt, EndsAt}
use Rattle.dependence.proofs.MarkEnds.{ends-within, ends-beyond}
use Rattle.dependence.proofs.PlaceMarks.{seats-from, seats-size, seat-at, one-place, live-place}
use Rattle.dependence.proofs.public.ListPlaces.{in-read, take-all}
use Rattle.dependence.proofs.public.Markings.{marked-next}
use Rattle.dependence.proofs.consequences.mark_all.Goals as goal
use Rattle.dependence.proofs.consequences.mark_all.Goals.{then-reached-index, else-reached-index}

pub place_of-requires-clause-live : goal.place_of-requires-clause-live
place_of-requires-clause-live c =
    let t : ℕ = get_or c.args.tickets.now c.loop-ticket.ticket-index 0 in
    let at = c.requires.live t (in-read c.args.tickets.now c.loop-ticket.ticket-index c.loop-ticket-test.true) in
    live-place c.args.slots.now.entries t (c.args.base + at.0) at.1

pub overflow_sub-index : goal.overflow_sub-index
overflow_sub-index c =
    let t : ℕ = get_or c.args.tickets.now c.loop-ticket.ticket-index 0 in
    let at = c.requires.live t (in-read c.args.tickets.now c.loop-ticket.ticket-index c.loop-ticket-test.true) in
    let same : c.place_of.result ≡ c.args.base + at.0 =
    one-place at.1.0.event c.args.slots.now.entries c.place_of.result (c.args.base + at.0) t (Some c.place_of.ensures.0) (Some at.1.0) c.requires.rising c.place_of.ensures.1 at.1.1 in
    omega arith

pub bounds-marks-index : goal.bounds-marks-index
bounds-marks-index c =
    let t : ℕ = get_or c.args.tickets.now c.loop-ticket.ticket-index 0 in
    let at = c.requires.live t (in-read c.args.tickets.now c.loop-ticket.ticket-index c.loop-ticket-test.true) in
    let same : c.place_of.result ≡ c.args.base + at.0 =
    one-place at.1.0.event c.args.slots.now.entries c.place_of.result (c.args.base + at.0) t (Some c.place_of.ensures.0) (Some at.1.0) c.requires.rising c.place_of.ensures.1 at.1.1 in
    let within = slice_get_within c.args.slots.now.entries c.place_of.result _ c.place_of.ensures.1 in
    omega (arith, c.requires.size, c.loop-ticket.auto.marks)

pub overflow_add-reached : goal.overflow_add-reached
overflow_add-reached c =
    let within = slice_get_within c.args.slots.now.entries c.place_of.result _ c.place_of.ensures.1 in
    let len = c.len-len.ensures.len in
    let small = c.len-len.ensures.small in
    omega arith

pub loop-ticket-preserved : goal.loop-ticket-preserved
loop-ticket-preserved c =
    let ps : Places Kept = c.args.slots.now.entries in
    let base : ℕ = c.args.base in
    let t : ℕ = get_or c.args.tickets.now c.loop-ticket.ticket-index 0 in
    let at = c.requires.live t (in-read c.args.tickets.now c.loop-ticket.ticket-index c.loop-ticket-test.true) in
    let same : c.place_of.result ≡ base + at.0 =
    one-place at.1.0.event ps c.place_of.result (base + at.0) t (Some c.place_of.ensures.0) (Some at.1.0) c.requires.rising c.place_of.ensures.1 at.1.1 in
    let index : ℕ = c.place_of.result - base in
    let whole : base + index ≡ c.place_of.result = omega arith in
    let within = slice_get_within ps c.place_of.result _ c.place_of.ensures.1 in
    let all : base + length c.loop-ticket.marks ≡ length ps = omega (arith, c.requires.size, c.loop-ticket.auto.marks) in
    let less : index < length c.loop-ticket.marks = omega arith in
    let here : slice_get ps (base + index) ≡ Some (t, Some c.place_of.ensures.0) = ap (slice_get ps) whole ∙ c.place_of.ensures.1 in
    let marked : List Bool = slice_set c.loop-ticket.marks index true in
    record {
      marked = λ e.
          let d : Live = drop base (seats e ps) in
          marked-next d c.args.marks.now c.loop-ticket.marks c.args.tickets.now c.loop-ticket.ticket-index index e
          (seats-from e ps base c.requires.rising) (seats-size e ps base (length c.loop-ticket.marks) all) c.loop-ticket-test.true
          (seat-at e ps base index t (Some c.place_of.ensures.0) here) (c.loop-ticket.invariant.marked e);
      ended = elim c.if-reached-index.branch [
        | then-reached-index w ↦
            let next : c.if-reached-index.reached ≡ suc index = omega (arith, w.reached-is) in
            ends-beyond c.loop-ticket.marks index c.loop-ticket.reached c.if-reached-index.reached next less w.if-reached-index.true c.loop-ticket.invariant.ended
        | else-reached-index w ↦
            subst (λ (n : ℕ). EndsAt marked n) (sym w.reached-is)
            (ends-within c.loop-ticket.marks index c.loop-ticket.reached less w.if-reached-index.false c.loop-ticket.invariant.ended)
      ];
    }

pub returns-clause-marked : goal.returns-clause-marked
returns-clause-marked c =
    let all = take-all c.args.tickets.now c.loop-ticket.ticket-index c.loop-ticket-test.false in
    λ e u.
    let d : Live = drop c.args.base (seats e c.args.slots.now.entries) in
    subst (λ (ts : List ℕ). MarkedAt d c.loop-ticket.marks u ↔ (MarkedAt d c.args.marks.now u ⊎ In u ts)) all (c.loop-ticket.invariant.marked e u)
