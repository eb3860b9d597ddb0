use Rattle.dap_moves.proofs.Counting.{few-turns}
use Rattle.dap_moves.proofs.laws.run_laws.Goals as goal

pub returns : goal.returns
returns c = few-turns
