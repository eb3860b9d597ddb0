use Rattle.std.proofs.Common.{◌∙◌, List, Bool, length, sym, ap, subst, refl}
use Rattle.runs.specs.Live.{Live, ConsequencesList}
use Rattle.dependence.specs.internal.Marking.{NoneLess, EndsAt}
use Rattle.dependence.proofs.Edges.{take-whole}
use Rattle.dependence.specs.Shown.{Shown, tickets_marked}
use Rattle.dependence.proofs.live.Live.mark_consequences.Goals as goal

pub mark_and_count-count-requires-clause-lower : goal.mark_and_count-count-requires-clause-lower
mark_and_count-count-requires-clause-lower c =
    subst (λ (k : Live). NoneLess k c.as_mut_slice.result.now c.self.inside.first_marked) (sym refl)
    (subst (λ (k : List Bool). NoneLess c.self.inside.list.live k c.self.inside.first_marked) (sym c.as_mut_slice.ensures.value) c.self.invariant.2)

pub mark_and_count-count-requires-clause-ended : goal.mark_and_count-count-requires-clause-ended
mark_and_count-count-requires-clause-ended c =
    subst (λ (k : List Bool). EndsAt k c.self.inside.marked_to) (sym c.as_mut_slice.ensures.value) c.self.invariant.3

pub invariant_of-self : goal.invariant_of-self
invariant_of-self c =
    let marks : List Bool = c.mark_and_count-count.new.marks in
    let size = c.mark_and_count-count.auto.marks ∙ ap length c.as_mut_slice.ensures.value in
    let whole = take-whole marks c.self.inside.marks.items c.self.inside.marks.len size (sym c.as_mut_slice.ensures.len ∙ ap length c.as_mut_slice.ensures.value) in (
      record { rising = c.self.invariant.0.rising; linked = c.self.invariant.0.linked; marks = ap length whole ∙ size ∙ c.self.invariant.0.marks },
      c.self.invariant.1,
      subst (λ (k : List Bool). NoneLess c.self.inside.list.live k c.args.ticket) (sym whole)
          (subst (λ (k : Live). NoneLess k marks c.args.ticket) refl c.mark_and_count-count.ensures.lower),
      subst (λ (k : List Bool). EndsAt k c.mark_and_count-count.result.1) (sym whole) c.mark_and_count-count.ensures.ended,
    )

pub returns-clause-counted : goal.returns-clause-counted
returns-clause-counted c =
    let marks : List Bool = c.mark_and_count-count.new.marks in
    let size = c.mark_and_count-count.auto.marks ∙ ap length c.as_mut_slice.ensures.value in
    let whole = take-whole marks c.self.inside.marks.items c.self.inside.marks.len size (sym c.as_mut_slice.ensures.len ∙ ap length c.as_mut_slice.ensures.value) in
    c.mark_and_count-count.ensures.counted ∙ ap (λ (ms : List Bool). length (tickets_marked c.self.inside.list.live ms)) (sym whole)

pub returns-clause-marked : goal.returns-clause-marked
returns-clause-marked c =
    let marks : List Bool = c.mark_and_count-count.new.marks in
    let size = c.mark_and_count-count.auto.marks ∙ ap length c.as_mut_slice.ensures.value in
    let whole = take-whole marks c.self.inside.marks.items c.self.inside.marks.len size (sym c.as_mut_slice.ensures.len ∙ ap length c.as_mut_slice.ensures.value) in
    subst (λ (ms : List Bool). ConsequencesList c.args.self.now.live c.args.ticket (tickets_marked c.self.inside.list.live ms)) (sym whole)
    (subst (λ (s : Shown). ConsequencesList s.live c.args.ticket (tickets_marked c.self.inside.list.live marks)) c.self.view_is c.mark_and_count-count.ensures.marked)
