use Rattle.std.proofs.Common.{◌≡◌, inl, inr, arith}
use Rattle.std.specs.List.{count_by}
use Rattle.syntax.specs.Texts.{is_end}
use Rattle.lexer.proofs.LineLemmas.{at_line, comment_ends, number_ends, symbol_ends, word_ends}
use Rattle.lexer.proofs.position.Position.behind_piece.Goals as goal

pub returns-in-LineComment : goal.returns-in-LineComment
returns-in-LineComment c =
    let text = c.args.text.now in
    let spelled = c.requires.spelled in
    let none : count_by is_end text ≡ 0 = elim c.in-LineComment.is [
      | inl a ↦ comment_ends text (rw a at spelled)
      | inr b ↦ elim b [
        | inl a ↦ word_ends text (rw a at spelled)
        | inr d ↦ elim d [
          | inl a ↦ number_ends text (rw a at spelled)
          | inr a ↦ symbol_ends text (rw a at spelled)
        ]
      ]
    ] in
    at_line c.args.self text c.args.self.line (omega (arith, none))
