use Rattle.std.proofs.Common.{◌≡◌, ◌<◌, ◌≤◌, ◌+◌, ℕ, suc, List, Bool, length, drop, Some, sym, ◌∙◌, ap, subst, arith, length-set}
use Rattle.std.specs.Prelude.{slice_get}
use Rattle.std.proofs.lemmas.Option.{slice_get-get_or}
use Rattle.syntax.specs.Lists.{In}
use Rattle.slots.specs.Places.{Places, filled}
use Rattle.runs.specs.Live.{Live}
use Rattle.runs.specs.declared.event.Event.{Event}
use Rattle.dependence.specs.declared.kept.Kept.{Kept}
use Rattle.dependence.specs.Followers.{ListsFollowers}
use Rattle.dependence.specs.internal.Listed.{events_kept, seats}
use Rattle.dependence.specs.internal.Marking.{MarkedBelow, EndsAt, UnmarkedFrom}
use Rattle.dependence.proofs.MarkEnds.{ends-first, ends-beyond, ends-inside}
use Rattle.dependence.proofs.PlaceMarks.{kept-rises, seats-from, seats-size, seat-at, live-place, followers-there, follower-place, marked-item}
use Rattle.dependence.proofs.public.ListPlaces.{at-within}
use Rattle.dependence.proofs.public.Markings.{marked-first, pass-marked, pass-unmarked, all-passed}
use Rattle.dependence.proofs.consequences.mark_dependents.Goals as goal
use Rattle.dependence.proofs.consequences.mark_dependents.Goals.{then-marks-index, else-marks-index}

pub loop-index-init : goal.loop-index-init
loop-index-init c =
    let ps : Places Kept = c.args.slots.now.entries in
    let base : ℕ = c.args.base in
    let first : base + 0 ≡ base = omega arith in
    let here : slice_get ps (base + 0) ≡ Some (c.args.ticket, Some c.requires.here.0) = ap (slice_get ps) first ∙ c.requires.here.1 in
    let less : 0 < length c.args.marks.now = omega (arith, c.requires.size, c.requires.within) in
    record {
      below = λ e.
          let r = seats-from e ps base c.requires.rising in
          marked-first 0 r.0 (drop base (seats e ps)) (events_kept (filled ps)) c.args.marks.now c.args.ticket 0 e r.1
          (seats-size e ps base (length c.args.marks.now) c.requires.size) (seat-at e ps base 0 c.args.ticket (Some c.requires.here.0) here) c.requires.none;
      ended = ends-beyond c.args.marks.now 0 0 1 (omega arith) less (omega arith) (ends-first c.args.marks.now c.requires.none);
    }

pub bounds-marks-index : goal.bounds-marks-index
bounds-marks-index c =
    let inside = ends-inside c.loop-index.marks c.loop-index.end c.loop-index.invariant.ended in
    omega (arith, c.loop-index-test.true)

pub loop-index-smaller : goal.loop-index-smaller
loop-index-smaller c =
    let inside = ends-inside c.loop-index.marks c.loop-index.end c.loop-index.invariant.ended in
    omega (arith, c.loop-index-test.true, c.loop-index.auto.marks, length-set {A = Bool})

pub overflow_add-base : goal.overflow_add-base
overflow_add-base c =
    let inside = ends-inside c.loop-index.marks c.loop-index.end c.loop-index.invariant.ended in
    let len = c.len-len.ensures.len in
    let small = c.len-len.ensures.small in
    omega (arith, c.loop-index-test.true, c.requires.size, c.loop-index.auto.marks, length-set {A = Bool})

pub kept_at-requires : goal.kept_at-requires
kept_at-requires c =
    let ps : Places Kept = c.args.slots.now.entries in
    let e : Event = c.requires.here.0.event in
    let inside = ends-inside c.loop-index.marks c.loop-index.end c.loop-index.invariant.ended in
    let within : c.loop-index.index < length c.loop-index.marks = omega (arith, c.loop-index-test.true) in
    let all : c.args.base + length c.loop-index.marks ≡ length ps = omega (arith, c.requires.size, c.loop-index.auto.marks, length-set {A = Bool}) in
    let read = slice_get-get_or c.loop-index.marks c.loop-index.index _ within in
    marked-item e ps c.args.base c.loop-index.index c.args.ticket c.loop-index.index c.loop-index.marks c.requires.rising
    (live-place ps c.args.ticket c.args.base c.requires.here) all (c.loop-index.invariant.below e) (read ∙ ap (λ (b : Bool). Some b) c.if-marks-index.true)

pub mark_all-end-requires-clause-live : goal.mark_all-end-requires-clause-live
mark_all-end-requires-clause-live c = λ t i.
    follower-place c.args.slots.now.entries c.args.base c.loop-index.index c.kept_at.ensures.0 c.kept_at.result.now c.requires.rising c.requires.linked c.kept_at.ensures.1 t
    (subst (λ (k : List ℕ). In t k) c.as_slice-followers.ensures i)

pub loop-index-preserved : goal.loop-index-preserved
loop-index-preserved c =
    let ps : Places Kept = c.args.slots.now.entries in
    let l : Live = events_kept (filled ps) in
    let base : ℕ = c.args.base in
    let index : ℕ = c.loop-index.index in
    let more : suc index ≡ index + 1 = omega arith in
    let inside = ends-inside c.loop-index.marks c.loop-index.end c.loop-index.invariant.ended in
    let within : index < length c.loop-index.marks = omega (arith, c.loop-index-test.true) in
    let all : base + length c.loop-index.marks ≡ length ps = omega (arith, c.requires.size, c.loop-index.auto.marks, length-set {A = Bool}) in
    let read = slice_get-get_or c.loop-index.marks index _ within in
    elim c.if-marks-index.branch [
      | then-marks-index w ↦
          let k : Kept = w.kept_at.result.now in
          let s : ℕ = w.kept_at.ensures.0 in
          let lists : ListsFollowers l s w.as_slice-followers.result.now =
          subst (λ (ts : List ℕ). ListsFollowers l s ts) (sym w.as_slice-followers.ensures) (followers-there ps (base + index) s k c.requires.linked w.kept_at.ensures.1) in
          record {
            below = λ e.
                let d : Live = drop base (seats e ps) in
                let r = seats-from e ps base c.requires.rising in
                subst (λ (ms : List Bool). MarkedBelow d l c.args.ticket (index + 1) ms) (sym w.marks-is)
                (subst (λ (n : ℕ). MarkedBelow d l c.args.ticket n w.mark_all-end.new.marks) more
                (pass-marked 0 r.0 d l c.args.ticket index s e c.loop-index.marks w.mark_all-end.new.marks r.1
                (seat-at e ps base index s (Some k) w.kept_at.ensures.1) (c.loop-index.invariant.below e) w.as_slice-followers.result.now
                (read ∙ ap (λ (b : Bool). Some b) w.if-marks-index.true) lists (w.mark_all-end.ensures.marked e)));
            ended = subst (λ (ms : List Bool). EndsAt ms c.if-marks-index.end) (sym w.marks-is)
                (subst (λ (n : ℕ). EndsAt w.mark_all-end.new.marks n) (sym w.end-is) w.mark_all-end.ensures.ended);
          }
      | else-marks-index w ↦
          let less : base + index < length ps = omega arith in
          let here = at-within ps (base + index) less in
          record {
            below = λ e.
                let d : Live = drop base (seats e ps) in
                let r = seats-from e ps base c.requires.rising in
                subst (λ (ms : List Bool). MarkedBelow d l c.args.ticket (index + 1) ms) (sym w.marks-is)
                (subst (λ (n : ℕ). MarkedBelow d l c.args.ticket n c.loop-index.marks) more
                (pass-unmarked 0 r.0 d l c.args.ticket index here.0.0 e c.loop-index.marks c.loop-index.marks r.1
                (seat-at e ps base index here.0.0 here.0.1 here.1) (c.loop-index.invariant.below e) (read ∙ ap (λ (b : Bool). Some b) w.if-marks-index.false)));
            ended = subst (λ (ms : List Bool). EndsAt ms c.if-marks-index.end) (sym w.marks-is)
                (subst (λ (n : ℕ). EndsAt c.loop-index.marks n) (sym w.end-is) c.loop-index.invariant.ended);
          }
    ]

pub returns : goal.returns
returns c =
    let ps : Places Kept = c.args.slots.now.entries in
    let past : c.loop-index.end ≤ c.loop-index.index = c.loop-index-test.false in
    let none : UnmarkedFrom c.loop-index.marks c.loop-index.index = λ k up on. c.loop-index.invariant.ended.none k (omega arith) on in
    record {
      marked = λ e.
          all-passed (drop c.args.base (seats e ps)) (events_kept (filled ps)) c.args.ticket c.loop-index.index c.loop-index.marks (seats-from e ps c.args.base c.requires.rising)
          (kept-rises 0 ps c.requires.rising) (live-place ps c.args.ticket c.args.base c.requires.here) none (c.loop-index.invariant.below e);
      ended = c.loop-index.invariant.ended;
    }

pub overflow_add-index : goal.overflow_add-index
overflow_add-index c =
    let inside = ends-inside c.loop-index.marks c.loop-index.end c.loop-index.invariant.ended in
    let len = c.len-len.ensures.len in
    let small = c.len-len.ensures.small in
    omega (arith, c.loop-index-test.true, c.requires.size, c.loop-index.auto.marks, length-set {A = Bool})
