use Rattle.std.proofs.Common.{◌∙◌, ap, sym}
use Rattle.parser.specs.Trees.{command_span, over}
use Rattle.parser.proofs.LastLemmas.{over_last, span_through}
use Rattle.parser.proofs.command.span_over.Goals as goal

pub returns-in-Some : goal.returns-in-Some
returns-in-Some c =
    let last = command_span c.in-Some.last.now in
    span_through c.through.result c.args.start last c.through.ensures.start c.through.ensures.stop c.through.ensures.line
    ∙ sym (over_last c.args.start c.as_slice.result.now c.in-Some.last.now c.in-Some.ensures.value)
    ∙ ap (λ commands. over c.args.start commands) c.as_slice.ensures
