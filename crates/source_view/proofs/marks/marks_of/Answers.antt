use Rattle.std.proofs.Common.{◌≡◌, List, length, drop, take_at, ap, sym, subst, arith}
use Rattle.source_view.specs.internal.Marking.{AreMarks, break_mark}
use Rattle.source_view.specs.View.{marks_on}
use Rattle.source_view.specs.declared.marks.Marks.{Marks}
use Rattle.source_view.proofs.Agreeing.{gathered}
use Rattle.source_view.proofs.marks.marks_of.Goals as goal

pub returns : goal.returns
returns c =
    let begun : List Marks = c.deref_mut.result.now in
    let after : List Marks = c.add_ready.new.marks in
    let long : length after ≡ length begun = omega (arith, c.add_ready.auto.marks) in
    let alone : AreMarks begun c.args.count (break_mark c.args.breaks.now) =
    subst (λ (marks : List Marks). AreMarks marks c.args.count (break_mark c.args.breaks.now)) (sym c.deref_mut.ensures.value) c.in_ok-marks.ensures in
    subst (λ (marks : List Marks). AreMarks marks c.args.count (marks_on c.args.machine.now c.args.ready.now c.args.breaks.now))
    (sym (take_at after (drop (length after) c.in_ok-marks.marks.items) c.in_ok-marks.marks.len
    (omega (arith, long, ap length c.deref_mut.ensures.value, c.in_ok-marks.marks.ok))))
    (gathered c.args.machine.now c.args.ready.now c.args.breaks.now c.args.count begun after c.requires alone long c.add_ready.ensures)
