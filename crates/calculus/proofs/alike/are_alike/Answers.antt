use Rattle.std.proofs.Common.{List, take, sym, subst, ◌∙◌, arith, true≢false, refl}
use Rattle.runs.specs.declared.event.Event.{Event}
use Rattle.calculus.proofs.Alikeness.{Follows, follows-more, all-before, alike-inside, alike-of}
use Rattle.calculus.proofs.ListPlaces.{item-got, taken-more, taken-all, get-within, rearranged-length}
use Rattle.calculus.proofs.alike.are_alike.Goals as goal

pub returns-then-a-b : goal.returns-then-a-b
returns-then-a-b c = (
  λ h. absurd (true≢false (sym h)),
  λ alike. absurd (c.if-a-b.true (rearranged-length c.args.a.now c.args.b.now alike.same_events)),
)

pub returns-in_default : goal.returns-in_default
returns-in_default c =
    let at = item-got c.args.a.now c.loop-event.event-index c.event-item.result c.loop-event-test.true c.event-item.is in (
      λ h. absurd (true≢false (sym h)),
      λ alike. absurd (c.in_default.ensures (alike-inside c.args.a.now c.args.b.now c.loop-event.event-index c.event-item.result alike at)),
    )

pub all_before-requires : goal.all_before-requires
all_before-requires c =
    let within = get-within c.args.b.now c.in-Some.place c.event-item.result c.in-Some.ensures in omega (arith, within)

pub returns-then-not-all_before : goal.returns-then-not-all_before
returns-then-not-all_before c =
    let at = item-got c.args.a.now c.loop-event.event-index c.event-item.result c.loop-event-test.true c.event-item.is in (
      λ h. absurd (true≢false (sym h)),
      λ alike. absurd (true≢false (sym (c.all_before.ensures.1
          (all-before c.args.a.now c.args.b.now c.loop-event.uses c.loop-event.event-index c.event-item.result c.in-Some.place c.requires.second
          c.loop-event.invariant alike at c.in-Some.ensures)) ∙ c.if-not-all_before.true)),
    )

pub loop-event-preserved : goal.loop-event-preserved
loop-event-preserved c =
    let x = c.event-item.result in
    let i = c.loop-event.event-index in
    let at = item-got c.args.a.now i x c.loop-event-test.true c.event-item.is in
    subst (λ (h : List Event). Follows h c.args.b.now c.put.new.self) (sym (taken-more c.args.a.now i x at))
    (follows-more (take i c.args.a.now) c.args.b.now c.loop-event.uses c.put.new.self x c.in-Some.place c.requires.second c.loop-event.invariant
    c.in-Some.ensures (c.all_before.ensures.0 c.if-not-all_before.false) c.in_ok-put.ensures)

pub returns : goal.returns
returns c =
    let all = taken-all c.args.a.now c.loop-event.event-index c.loop-event-test.false in
    let alike = alike-of c.args.a.now c.args.b.now c.loop-event.uses c.requires.first c.if-a-b.false
    (subst (λ (h : List Event). Follows h c.args.b.now c.loop-event.uses) all c.loop-event.invariant) in
    (λ h. alike, λ h. refl)
