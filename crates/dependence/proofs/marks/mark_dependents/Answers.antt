use Rattle.std.proofs.Common.{◌≡◌, ◌<◌, ◌≤◌, ◌+◌, ℕ, suc, List, Bool, length, Some, sym, ◌∙◌, ap, subst, arith, length-set}
use Rattle.std.proofs.lemmas.Option.{slice_get-get_or, slice_get_within}
use Rattle.syntax.specs.Lists.{In}
use Rattle.runs.specs.Live.{Live}
use Rattle.dependence.specs.Followers.{ListsFollowers}
use Rattle.dependence.specs.internal.Marking.{MarkedBelow, EndsAt, UnmarkedFrom}
use Rattle.dependence.proofs.MarkEnds.{ends-first, ends-beyond, ends-inside}
use Rattle.dependence.proofs.public.ListPlaces.{at-within}
use Rattle.dependence.proofs.public.Linking.{linked-there}
use Rattle.dependence.proofs.public.Markings.{marked-first, pass-marked, pass-unmarked, all-passed, dependents-above}
use Rattle.dependence.proofs.marks.mark_dependents.Goals as goal
use Rattle.dependence.proofs.marks.mark_dependents.Goals.{then-marks-index, else-marks-index}

pub bounds-marks-index : goal.bounds-marks-index
bounds-marks-index c =
    let within = slice_get_within c.args.list.now.live c.index_of_live-index.result _ c.index_of_live-index.ensures.1 in
    omega (arith, c.requires.size)

pub overflow_add-end : goal.overflow_add-end
overflow_add-end c =
    let within = slice_get_within c.args.list.now.live c.index_of_live-index.result _ c.index_of_live-index.ensures.1 in
    let len = c.len-len.ensures.events in
    let fits = c.len-len.type_inv in
    omega arith

pub loop-index-init : goal.loop-index-init
loop-index-init c =
    let l : Live = c.args.list.now.live in
    let r = c.requires.rising in
    let at = c.index_of_live-index.ensures in
    let index : ℕ = c.index_of_live-index.result in
    let within = slice_get_within l index _ at.1 in
    let less : index < length c.args.marks.now = omega (arith, c.requires.size) in
    let next : index + 1 ≡ suc index = omega arith in
    record {
      below = marked-first 0 r.0 l l c.args.marks.now c.args.ticket index at.0 r.1 c.requires.size at.1 c.requires.none;
      ended = ends-beyond c.args.marks.now index 0 (index + 1) next less (omega arith) (ends-first c.args.marks.now c.requires.none);
    }

pub bounds-marks-index-in-loop-index : goal.bounds-marks-index-in-loop-index
bounds-marks-index-in-loop-index c =
    let inside = ends-inside c.loop-index.marks c.loop-index.end c.loop-index.invariant.ended in
    omega (arith, c.loop-index-test.true)

pub loop-index-smaller : goal.loop-index-smaller
loop-index-smaller c =
    let inside = ends-inside c.loop-index.marks c.loop-index.end c.loop-index.invariant.ended in
    omega (arith, c.loop-index-test.true, c.loop-index.auto.marks, length-set {A = Bool})

pub links_at-requires : goal.links_at-requires
links_at-requires c =
    let inside = ends-inside c.loop-index.marks c.loop-index.end c.loop-index.invariant.ended in
    omega (arith, c.loop-index-test.true, c.requires.size, c.loop-index.auto.marks, length-set {A = Bool})

pub mark_all-end-requires-clause-live : goal.mark_all-end-requires-clause-live
mark_all-end-requires-clause-live c = λ t i.
    let l : Live = c.args.list.now.live in
    let inside = ends-inside c.loop-index.marks c.loop-index.end c.loop-index.invariant.ended in
    let less : c.loop-index.index < length l = omega (arith, c.loop-index-test.true, c.requires.size, c.loop-index.auto.marks, length-set {A = Bool}) in
    let here = linked-there l c.args.list.now.links c.loop-index.index c.links_at.result.now c.requires.linked less c.links_at.ensures in
    let f = ((here.followers.exactly t).0 (subst (λ (k : List ℕ). In t k) c.as_slice-followers.ensures i)).dependent in
    (f.dependent, f.dependent_live)

pub loop-index-preserved : goal.loop-index-preserved
loop-index-preserved c =
    let l : Live = c.args.list.now.live in
    let r = c.requires.rising in
    let index : ℕ = c.loop-index.index in
    let more : suc index ≡ index + 1 = omega arith in
    let inside = ends-inside c.loop-index.marks c.loop-index.end c.loop-index.invariant.ended in
    let within : index < length c.loop-index.marks = omega (arith, c.loop-index-test.true) in
    let less : index < length l = omega (arith, c.requires.size, c.loop-index.auto.marks, length-set {A = Bool}) in
    let read = slice_get-get_or c.loop-index.marks index _ within in
    elim c.if-marks-index.branch [
      | then-marks-index w ↦
          let here = linked-there l c.args.list.now.links index w.links_at.result.now c.requires.linked less w.links_at.ensures in
          record {
            below = subst (λ (k : List Bool). MarkedBelow l l c.args.ticket (index + 1) k) (sym w.marks-is)
                (subst (λ (k : ℕ). MarkedBelow l l c.args.ticket k w.mark_all-end.new.marks) more
                (pass-marked 0 r.0 l l c.args.ticket index here.ticket here.event c.loop-index.marks w.mark_all-end.new.marks r.1
                here.stands c.loop-index.invariant.below w.as_slice-followers.result.now (read ∙ ap (λ (b : Bool). Some b) w.if-marks-index.true)
                (subst (λ (k : List ℕ). ListsFollowers l here.ticket k) (sym w.as_slice-followers.ensures) here.followers) w.mark_all-end.ensures.marked));
            ended = subst (λ (k : List Bool). EndsAt k c.if-marks-index.end) (sym w.marks-is)
                (subst (λ (n : ℕ). EndsAt w.mark_all-end.new.marks n) (sym w.end-is) w.mark_all-end.ensures.ended);
          }
      | else-marks-index w ↦
          let here = at-within l index less in
          record {
            below = subst (λ (k : List Bool). MarkedBelow l l c.args.ticket (index + 1) k) (sym w.marks-is)
                (subst (λ (k : ℕ). MarkedBelow l l c.args.ticket k c.loop-index.marks) more
                (pass-unmarked 0 r.0 l l c.args.ticket index here.0.0 here.0.1 c.loop-index.marks c.loop-index.marks r.1
                here.1 c.loop-index.invariant.below (read ∙ ap (λ (b : Bool). Some b) w.if-marks-index.false)));
            ended = subst (λ (k : List Bool). EndsAt k c.if-marks-index.end) (sym w.marks-is)
                (subst (λ (n : ℕ). EndsAt c.loop-index.marks n) (sym w.end-is) c.loop-index.invariant.ended);
          }
    ]

pub returns : goal.returns
returns c =
    let l : Live = c.args.list.now.live in
    let past : c.loop-index.end ≤ c.loop-index.index = c.loop-index-test.false in
    let none : UnmarkedFrom c.loop-index.marks c.loop-index.index = λ k up on. c.loop-index.invariant.ended.none k (omega arith) on in
    let all = all-passed l l c.args.ticket c.loop-index.index c.loop-index.marks c.requires.rising c.requires.rising c.requires.live none c.loop-index.invariant.below in
    record { marked = all; lower = dependents-above l l c.loop-index.marks c.args.ticket all; ended = c.loop-index.invariant.ended }

pub overflow_add-index : goal.overflow_add-index
overflow_add-index c =
    let inside = ends-inside c.loop-index.marks c.loop-index.end c.loop-index.invariant.ended in
    let len = c.len-len.ensures.events in
    let fits = c.len-len.type_inv in
    omega (arith, c.loop-index-test.true, c.requires.size, c.loop-index.auto.marks, length-set {A = Bool})
