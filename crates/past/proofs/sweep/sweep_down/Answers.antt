use Rattle.std.proofs.Common.{◌≡◌, ◌∙◌, ℕ, suc, ◌+◌, ◌-◌, ◌<◌, ◌⊎◌, ◌↔◌, List, length, Some, Bool, true, refl, sym, ap, subst, arith, length-set}
use Rattle.std.specs.Prelude.{slice_get, slice_set}
use Rattle.std.proofs.lemmas.Option.{slice_get-get_or, slice_get_within}
use Rattle.syntax.specs.Lists.{In}
use Rattle.runs.specs.Live.{Live}
use Rattle.dependence.proofs.public.ListPlaces.{at-within}
use Rattle.dependence.specs.internal.Marking.{MarkedAt}
use Rattle.past.specs.declared.past.PastEvent.{PastEvent}
use Rattle.past.specs.internal.Swept.{ListsDown, MarkedFrom}
use Rattle.past.proofs.Sweeping.{marked-first, listed-first, pass-marked, pass-unmarked, listed-more, listed-same}
use Rattle.past.proofs.sweep.sweep_down.Goals as goal

pub loop-index-init : goal.loop-index-init
loop-index-init c =
    let l : Live = c.args.live.now.live in
    let first : ℕ = c.index_of_live-index.result in
    let at = c.index_of_live-index.ensures in
    let within : first < length l = slice_get_within l first _ at.1 in
    let more : suc first ≡ first + 1 = omega arith in
    record {
      within = omega arith;
      marked = subst (λ (k : ℕ). MarkedFrom l c.args.ticket k (slice_set c.args.marks.now first true)) more
          (marked-first 0 c.is_sound.ensures.rising.0 l c.args.marks.now c.args.ticket first at.0 c.is_sound.ensures.rising.1 c.requires.size at.1 c.requires.none);
      listed = subst (λ (k : ℕ). ListsDown l c.args.ticket k c.args.events.now.items) more
          (subst (λ (es : List PastEvent). ListsDown l c.args.ticket (suc first) es) (sym c.requires.empty)
          (listed-first 0 c.is_sound.ensures.rising.0 l c.args.ticket first at.0 c.is_sound.ensures.rising.1 at.1));
    }

pub event_at-requires : goal.event_at-requires
event_at-requires c = let upto = c.loop-index.invariant.within in omega arith

pub mark_all-requires-clause-live : goal.mark_all-requires-clause-live
mark_all-requires-clause-live c = λ t i.
    let f = (c.in_ok-event.ensures.2.exactly t).0 (subst (λ (ts : List ℕ). In t ts) c.as_slice.ensures i) in
    (f.dependent.event, f.dependent.live)

pub loop-index-preserved-in-Continue-branch-2 : goal.loop-index-preserved-in-Continue-branch-2
loop-index-preserved-in-Continue-branch-2 c =
    let l : Live = c.args.live.now.live in
    let p : ℕ = c.loop-index.index - 1 in
    let upto = c.loop-index.invariant.within in
    let less : p < length l = omega arith in
    let back : c.loop-index.index ≡ suc p = omega arith in
    let one : PastEvent = c.in_ok-event.event in
    let made = c.in_ok-event.ensures in
    let stands = subst (λ (k : ℕ). slice_get l k ≡ Some (one.ticket, made.1.event)) made.0 made.1.stands in
    let size : length c.loop-index.marks ≡ length l = omega (arith, length-set {A = Bool}) in
    let within : p < length c.loop-index.marks = omega arith in
    let on = slice_get-get_or c.loop-index.marks p _ within ∙ ap (λ (b : Bool). Some b) c.if-marks-index.true in
    let before = subst (λ (k : ℕ). MarkedFrom l c.args.ticket k c.loop-index.marks) back c.loop-index.invariant.marked in
    let down = subst (λ (k : ℕ). ListsDown l c.args.ticket k c.loop-index.events.items) back c.loop-index.invariant.listed in
    record {
      within = omega arith;
      marked = pass-marked 0 c.is_sound.ensures.rising.0 l c.args.ticket p one.ticket made.1.event c.loop-index.marks c.mark_all.new.marks
          c.is_sound.ensures.rising.1 stands before one.causes on made.2
          (subst (λ (ts : List ℕ). (u : ℕ) → MarkedAt l c.mark_all.new.marks u ↔ (MarkedAt l c.loop-index.marks u ⊎ In u ts)) c.as_slice.ensures c.mark_all.ensures);
      listed = subst (λ (es : List PastEvent). ListsDown l c.args.ticket p es) (sym c.in_ok-push.ensures.items)
          (listed-more 0 c.is_sound.ensures.rising.0 l c.args.ticket p one.ticket made.1.event c.loop-index.marks c.loop-index.events.items
          c.is_sound.ensures.rising.1 stands before down one refl on made.1 made.2);
    }

pub loop-index-preserved : goal.loop-index-preserved
loop-index-preserved c =
    let l : Live = c.args.live.now.live in
    let p : ℕ = c.loop-index.index - 1 in
    let upto = c.loop-index.invariant.within in
    let less : p < length l = omega arith in
    let back : c.loop-index.index ≡ suc p = omega arith in
    let at = at-within l p less in
    let size : length c.loop-index.marks ≡ length l = omega (arith, length-set {A = Bool}) in
    let within : p < length c.loop-index.marks = omega arith in
    let off = slice_get-get_or c.loop-index.marks p _ within ∙ ap (λ (b : Bool). Some b) c.if-marks-index.false in
    let before = subst (λ (k : ℕ). MarkedFrom l c.args.ticket k c.loop-index.marks) back c.loop-index.invariant.marked in
    let down = subst (λ (k : ℕ). ListsDown l c.args.ticket k c.loop-index.events.items) back c.loop-index.invariant.listed in
    record {
      within = omega arith;
      marked = pass-unmarked 0 c.is_sound.ensures.rising.0 l c.args.ticket p at.0.0 at.0.1 c.loop-index.marks c.loop-index.marks
          c.is_sound.ensures.rising.1 at.1 before off;
      listed = listed-same 0 c.is_sound.ensures.rising.0 l c.args.ticket p at.0.0 at.0.1 c.loop-index.marks c.loop-index.events.items
          c.is_sound.ensures.rising.1 at.1 before down off;
    }

pub returns : goal.returns
returns c =
    let past : c.loop-index.index ≡ 0 = omega arith in
    subst (λ (k : ℕ). ListsDown c.args.live.now.live c.args.ticket k c.loop-index.events.items) past c.loop-index.invariant.listed
