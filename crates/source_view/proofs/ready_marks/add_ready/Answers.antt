use Rattle.std.proofs.Common.{suc, ◌-◌, length, take, drop, get_or, arith, ap, ◌∙◌}
use Rattle.runs.specs.Live.{events}
use Rattle.runs.specs.Moves.{Place}
use Rattle.dependence.specs.EventPlaces.{line_after}
use Rattle.source_view.specs.internal.Marking.{no_marks, with_events}
use Rattle.source_view.proofs.Agreeing.{first-and-rest, after-one}
use Rattle.source_view.proofs.ready_marks.add_ready.Goals as goal

pub loop-rest-preserved : goal.loop-rest-preserved
loop-rest-preserved c = λ k less.
    after-one c.args.machine.now c.loop-rest.rest.now (take (length c.loop-rest.rest.now - 1) (drop 1 c.loop-rest.rest.now)) c.event-item.result (suc k)
    (get_or c.loop-rest.marks k no_marks) (get_or c.add_event.new.marks k no_marks)
    (with_events c.args.machine.now c.args.ready.now (suc k) (get_or c.args.marks.now k no_marks))
    c.line-line.result c.conflicts_with_next.result
    (first-and-rest c.loop-rest.rest.now c.event-item.result (omega (arith, c.in-len1-up.len_at_least)) c.event-item.is)
    (c.line-line.ensures ∙ ap (λ (p : Place). line_after (events c.args.machine.now.live) c.args.machine.now.checked p) c.acting_place.ensures)
    c.conflicts_with_next.ensures
    (c.add_event.ensures k (omega (arith, less, c.loop-rest.auto.marks)))
    (c.loop-rest.invariant k less)
