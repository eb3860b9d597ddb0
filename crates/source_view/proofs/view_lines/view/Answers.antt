use Rattle.std.proofs.Common.{◌≡◌, List, IfOk, sym, subst}
use Rattle.runs.specs.InOrder.{InOrder}
use Rattle.runs.specs.Ready.{Sooner}
use Rattle.runs.specs.declared.event.Event.{Event}
use Rattle.source_view.specs.internal.Marking.{AreMarks, marks_at}
use Rattle.syntax.specs.Texts.{lines}
use Rattle.source_view.specs.View.{lines_text, marks_on}
use Rattle.source_view.specs.declared.marks.Marks.{Marks}
use Rattle.source_view.proofs.Agreeing.{shown}
use Rattle.source_view.proofs.view_lines.view.Goals as goal

pub marks_of-requires : goal.marks_of-requires
marks_of-requires c = subst (λ (es : List Event). InOrder Sooner es) (sym c.as_slice.ensures) c.in_ok-ready.ensures.2.in_order

pub returns : goal.returns
returns c =
    shown c.args.machine.now c.args.breaks.now c.args.source.now c.in_ok-ready.ready c.in_ok-marks.marks.items c.room_for_lines-count.result
    (λ bytes. bytes.items) c.write_lines.result c.in_ok-ready.ensures c.room_for_lines-count.ensures
    (subst (λ (es : List Event). AreMarks c.in_ok-marks.marks.items c.room_for_lines-count.result (marks_on c.args.machine.now es c.args.breaks.now)) c.as_slice.ensures c.in_ok-marks.ensures)
    (subst (λ (marks : List Marks). IfOk c.write_lines.result (λ bytes. bytes.items ≡ lines_text (marks_at marks) 1 (lines c.args.source.now))) c.as_slice-2.ensures.value c.write_lines.ensures)
