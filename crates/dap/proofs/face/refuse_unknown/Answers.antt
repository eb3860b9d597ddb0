use Rattle.dap.proofs.face.refuse_unknown.Goals as goal

pub returns-in-Disconnect-clause-refused : goal.returns-in-Disconnect-clause-refused
returns-in-Disconnect-clause-refused c = λ other. absurd (other c.in-Disconnect.is)

pub returns-in_default-clause-refused : goal.returns-in_default-clause-refused
returns-in_default-clause-refused c = λ other. c.refuse.ensures.refused
