use Rattle.std.proofs.Common.{ℕ, List, subst}
use Rattle.file_answers.specs.Kept.{kept_of}
use Rattle.command_line.specs.Serving.{told_with}
use Rattle.file_answers.specs.Used.{Tells, used}
use Rattle.command_line.proofs.program.serve.Goals as goal

pub returns-clause-served : goal.returns-clause-served
returns-clause-served g c = (
  c.perform-done.result,
  kept_of c.perform-done.new.texts,
  c.words_behind-words.result.items,
  c.perform-done.ensures,
  c.words_behind-words.ensures,
  c.finish.ensures.status,
  subst (λ (t : List ℕ). Tells (told_with c.perform-done.result t)
      (used g.E.Write.contents c.args.err.now c.finish.new.err) c.finish.result.told) c.as_slice.ensures.value
      c.finish.ensures.told,
)
