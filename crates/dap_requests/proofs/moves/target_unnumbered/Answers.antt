use Rattle.std.proofs.Common.{codes, refl, sym, ◌∙◌}
use Rattle.dap_requests.proofs.Denying.{no_number, step_unnamed}
use Rattle.dap_requests.proofs.Forward.{target_none}
use Rattle.serde_json.specs.View.{view}
use Rattle.dap_messages.specs.Arguments.{number_named}
use Rattle.dap_requests.proofs.moves.target_unnumbered.Goals as goal

pub returns-then-names_target : goal.returns-then-names_target
returns-then-names_target c = (
  c.refuse.ensures.refused,
  c.refuse.ensures.same,
  no_number c.args.request.now c.requires.step c.requires.named (sym c.names_target.ensures ∙ c.if-names_target.true),
)

pub returns-else-names_target : goal.returns-else-names_target
returns-else-names_target c = (
  target_none c.args.request.now.kind (number_named (codes "targetId") (view c.args.request.now.arguments)) c.requires.step
      (sym c.requires.named),
  refl,
  step_unnamed c.args.request.now c.requires.named (sym c.names_target.ensures ∙ c.if-names_target.false),
)
