-- One name may be left out.
use Rattle.types.proofs.LastElement.{last_left_out}
use Rattle.types.proofs.OneName.{one_local_left_out, one_port_left_out}
use Rattle.types.proofs.laws.unused_name_may_be_left_out.Goals as goal

pub returns : goal.returns
returns c = record { local = one_local_left_out; port = one_port_left_out; element = last_left_out }
