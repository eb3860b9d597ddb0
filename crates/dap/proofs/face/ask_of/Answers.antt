use Rattle.std.proofs.Common.{inl, inr}
use Rattle.dap.proofs.face.ask_of.Goals as goal

pub returns-in-Restart : goal.returns-in-Restart
returns-in-Restart g c = inl (c.in-Restart.is, c.restart.ensures)

pub returns-in_default : goal.returns-in_default
returns-in_default g c = inr (c.in_default.not-Restart, c.perform.ensures.goes, c.perform.ensures.sees)
