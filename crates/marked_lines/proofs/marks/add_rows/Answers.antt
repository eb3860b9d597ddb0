use Rattle.std.proofs.Common.{string_bytes}
use Rattle.marked_lines.proofs.Rowed.{more_shown}
use Rattle.marked_lines.proofs.marks.add_rows.Goals as goal

pub shown-preserved : goal.shown-preserved
shown-preserved c =
    more_shown c.args.text.now c.args.keeps_return c.args.columns c.args.marks.now c.split_at.result.1.now c.shown.shown
    c.in_ok-shown.field-0 (string_bytes c.args.out.now) (string_bytes c.shown.out) (string_bytes c.add_next.new.out)
    c.shown.invariant c.split_at.ensures.back c.in_ok-shown.ensures.1 c.in_ok-shown.ensures.2
