-- What is not used may be left out.
use Rattle.types.proofs.LeavingOut.{types_left_out, procedures_left_out}
use Rattle.types.proofs.LocalsLeftOut.{locals_left_out}
use Rattle.types.proofs.PortsLeftOut.{ports_left_out}
use Rattle.types.proofs.laws.unused_may_be_left_out.Goals as goal

pub returns : goal.returns
returns c = record { types = types_left_out; procedures = procedures_left_out; locals = locals_left_out; ports = ports_left_out }
