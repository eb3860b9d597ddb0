use Rattle.std.proofs.Common.{◌≡◌, ◌++◌, [], codes, true, sym, ap, subst, lit<}
use Rattle.std.proofs.lemmas.Fmt.{decimal_digit}
use Rattle.runs.specs.declared.command.Refusal.{Refusal}
use Rattle.line_text.specs.AnswerText.{refusal_text}
use Rattle.line_text.specs.EventText.{field}
use Rattle.debug_session.specs.ReplyText.{ending}
use Rattle.debug_session.specs.internal.Telling.{told_bytes}
use Rattle.debug_session.proofs.told.Answer.refuse.Goals as goal

-- the text of the refusal
memory-text : (why : Refusal) → why ≡ Refusal.Memory → told_bytes true [] ≡ codes "refused" ++ refusal_text why ++ ending
memory-text why is =
    let P : Refusal → Type 0 = λ w. told_bytes true [] ≡ codes "refused" ++ refusal_text w ++ ending in
    subst P (sym is) (sym (ap (λ d. codes "refused" ++ field d ++ ending) (decimal_digit 1 (lit< tt))))

pub returns-in-Memory-clause-told : goal.returns-in-Memory-clause-told
returns-in-Memory-clause-told c = memory-text c.args.why c.in-Memory.is
