use Rattle.std.proofs.Common.{codes, refl, sym}
use Rattle.dap_requests.proofs.Denying.{no_step, step_named}
use Rattle.dap_requests.proofs.Forward.{target_this}
use Rattle.serde_json.specs.View.{view}
use Rattle.dap_messages.specs.Arguments.{number_named}
use Rattle.dap_requests.proofs.moves.target_numbered.Goals as goal

pub returns-then-number-gt0 : goal.returns-then-number-gt0
returns-then-number-gt0 c = (
  target_this c.args.request.now.kind (number_named (codes "targetId") (view c.args.request.now.arguments)) c.args.number c.requires.step
      (sym c.requires.named),
  refl,
  step_named c.args.request.now c.args.number c.requires.named c.if-number-gt0.true,
)

pub returns-else-number-gt0 : goal.returns-else-number-gt0
returns-else-number-gt0 c = (
  c.refuse.ensures.refused,
  c.refuse.ensures.same,
  no_step c.args.request.now c.args.number c.requires.step c.requires.named c.if-number-gt0.false,
)
