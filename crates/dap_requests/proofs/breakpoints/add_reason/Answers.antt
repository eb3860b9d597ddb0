use Rattle.std.proofs.Common.{codes}
use Rattle.serde_json.specs.Data.{string}
use Rattle.dap_requests.proofs.Setting.{has_stays}
use Rattle.dap_requests.proofs.breakpoints.add_reason.Goals as goal

pub returns-then-not-is_empty : goal.returns-then-not-is_empty
returns-then-not-is_empty c = λ name d apart before.
    has_stays c.args.one.now c.text.new.self name (codes "message") d (string c.as_str.result.now) apart c.text.ensures before
