use Rattle.std.proofs.Common.{sym}
use Rattle.dap_messages.proofs.request.numbered.Goals as goal

pub returns : goal.returns
returns c = record { type = c.requires; seq = sym c.in_ok-seq.ensures; command = sym c.in_ok-command.ensures }
