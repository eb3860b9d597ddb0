use Rattle.std.proofs.Common.{◌≤◌}
use Rattle.std.specs.Vec.{vec_capacity}
use Rattle.source_view.specs.internal.Marking.{AreMarks, break_mark}
use Rattle.source_view.proofs.marks.breaks_alone.Given as goal

abbrev pub invariant-loop-index : goal.invariant-loop-index
invariant-loop-index l = AreMarks l.marks.items l.index (break_mark l.breaks) × (l.count ≤ vec_capacity l.marks)
