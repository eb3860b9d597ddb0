use Rattle.std.proofs.Common.{sym, ◌∙◌}
use Rattle.runs.specs.Choices.{choice_of}
use Rattle.dap_moves.proofs.Passing.{kept_one}
use Rattle.dap_moves.proofs.taken_back.stop_at.Goals as goal

pub returns-in-Some : goal.returns-in-Some
returns-in-Some c = (
  sym c.is_watched.ensures ∙ c.if-is_watched.false,
  c.in-Some.ensures,
  kept_one c.keep-kept.result c.args.kept.now.items (choice_of c.args.event.now) c.keep-kept.new.seen.items c.requires c.keep-kept.ensures,
)
