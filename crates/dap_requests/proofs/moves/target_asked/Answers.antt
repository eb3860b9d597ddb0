use Rattle.std.proofs.Common.{codes, refl}
use Rattle.serde_json.specs.View.{view}
use Rattle.dap_messages.specs.Arguments.{number_named}
use Rattle.dap_requests.proofs.Denying.{other_step}
use Rattle.dap_requests.proofs.Forward.{target_other}
use Rattle.dap_requests.proofs.moves.target_asked.Goals as goal

pub returns-in_default : goal.returns-in_default
returns-in_default c = (
  target_other c.args.request.now.kind (number_named (codes "targetId") (view c.args.request.now.arguments)) c.in_default.not-StepIn,
  refl,
  other_step c.args.request.now c.in_default.not-StepIn,
)
