use Rattle.std.proofs.Common.{[], ◌++◌, ◌∙◌, ap, codes, decimal, string_bytes}
use Rattle.std.proofs.lemmas.Result.{IfOk-weaker}
use Rattle.marked_lines.specs.Rows as rows
use Rattle.marked_lines.proofs.Rowed.{in_turn}
use Rattle.marked_lines.proofs.marks.add_row.Goals as goal

pub returns : goal.returns
returns c =
    let signs = c.in_ok-add_signs_behind.ensures in
    IfOk-weaker c.add_note_rows.result _ _
    (λ x h. (
      signs.0,
      signs.1,
      in_turn (string_bytes c.args.out.now) (rows.gutter [] c.args.columns) (rows.under_cut c.args.part.is_cut_before)
          signs.0 (rows.behind_blank (rows.last_note c.args.marks.now))
          (rows.note_rows c.args.text.now c.args.part c.args.columns c.args.marks.now) (string_bytes c.add_line.new.out)
          (string_bytes c.add_gutter.new.out) (string_bytes c.add_cut.new.out) (string_bytes c.add_signs_behind.new.out)
          (string_bytes c.add_last_note.new.out) (string_bytes c.add_note_rows.new.out)
          (rows.gutter (decimal c.args.part.line) c.args.columns) (rows.part_text c.args.text.now c.args.part) (codes "\n")
          c.in_ok-add_line.ensures c.in_ok-add_gutter.ensures c.in_ok-add_cut.ensures signs.2
          (c.in_ok-add_last_note.ensures
          ∙ ap (λ z. string_bytes c.add_signs_behind.new.out ++ rows.behind_blank z ++ codes "\n") c.last_note.ensures) h,
    )) c.add_note_rows.ensures
