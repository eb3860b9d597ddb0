use Rattle.std.proofs.Common.{◌≡◌, ◌∙◌, ap, subst, rules}
use Rattle.runs.specs.Live.{Live}
use Rattle.questions.specs.WhyText as model
use Rattle.questions.proofs.why.value_line.Goals as goal

pub returns : goal.returns
returns c = (
  c.value-value.result,
  c.last_writer-writer.result,
  c.value-value.ensures,
  subst (λ (live : Live). model.IsWriter live c.args.variable c.last_writer-writer.result) c.live_events.ensures.live
      c.last_writer-writer.ensures,
  search rules,
)
