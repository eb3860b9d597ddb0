use Rattle.std.proofs.Common.{◌≡◌, ℕ, suc, ◌<◌, length, get_or}
use Rattle.source_view.specs.internal.Marking.{no_marks, with_events}
use Rattle.source_view.proofs.ready_marks.add_ready.Given as goal

abbrev pub invariant-loop-rest : goal.invariant-loop-rest
invariant-loop-rest l =
    (k : ℕ) → k < length l.initial.marks →
    with_events l.machine l.rest (suc k) (get_or l.marks k no_marks) ≡ with_events l.machine l.ready (suc k) (get_or l.initial.marks k no_marks)

abbrev pub decreases-loop-rest : goal.decreases-loop-rest
decreases-loop-rest l = length l.rest
