use Rattle.dap_server.proofs.Framing.{ReadSoFar}
use Rattle.dap_server.proofs.input.Input.next.Given as goal

-- what was read so far is held
abbrev pub invariant-loop : goal.invariant-loop
invariant-loop g l = ReadSoFar (g.R.Read.remaining l.initial.reader) (g.R.Read.remaining l.reader) l.initial.self l.self
