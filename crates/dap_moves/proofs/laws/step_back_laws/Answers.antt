use Rattle.dap_moves.proofs.Backward.{refused-back, back-where-alone}
use Rattle.dap_moves.proofs.laws.step_back_laws.Goals as goal

pub returns-clause-refused : goal.returns-clause-refused
returns-clause-refused c = refused-back

pub returns-clause-alone : goal.returns-clause-alone
returns-clause-alone c = back-where-alone
