use Rattle.std.proofs.Common.{◌≡◌, ◌∙◌, ℕ, List, Bool, drop, take, sym, subst}
use Rattle.std.proofs.lemmas.Result.{IfOk-weaker}
use Rattle.slots.specs.Places.{Places, filled}
use Rattle.runs.specs.Live.{Live, ConsequencesList}
use Rattle.runs.specs.declared.event.Event.{Event}
use Rattle.dependence.specs.declared.kept.Kept.{Kept}
use Rattle.dependence.specs.Shown.{tickets_marked}
use Rattle.dependence.specs.internal.Listed.{events_kept, seats}
use Rattle.dependence.proofs.MarkEnds.{tickets-taken, ends-inside}
use Rattle.dependence.proofs.consequences.tickets_from.Goals as goal

pub returns : goal.returns
returns c =
    let ps : Places Kept = c.args.slots.now.entries in
    let l : Live = events_kept (filled ps) in
    let marks : List Bool = c.mark_dependents-end.new.marks in
    let end : ℕ = c.mark_dependents-end.result in
    let e : Event = c.requires.here.0.event in
    let d : Live = drop c.args.base (seats e ps) in
    IfOk-weaker c.copy_each.result (λ tickets. (x : Event) → tickets.items ≡ tickets_marked (drop c.args.base (seats x ps)) (take end marks))
    (λ tickets. ConsequencesList l c.args.ticket tickets.items)
    (λ tickets is. subst (λ (ts : List ℕ). ConsequencesList l c.args.ticket ts) (sym (is e ∙ tickets-taken d marks end c.mark_dependents-end.ensures.ended.none))
    (c.mark_dependents-end.ensures.marked e)) c.copy_each.ensures

pub slice_bounds-copy_each-end : goal.slice_bounds-copy_each-end
slice_bounds-copy_each-end c = ends-inside c.mark_dependents-end.new.marks c.mark_dependents-end.result c.mark_dependents-end.ensures.ended
