use Rattle.std.proofs.Common.{◌≡◌, ◌+◌, ℕ}
use Rattle.dap_server.proofs.Framing.{PassedSoFar}
use Rattle.dap_server.proofs.input.Input.pass_over.Given as goal

-- so many bytes are passed over, and so many are left
abbrev pub invariant-loop : goal.invariant-loop
invariant-loop g l =
    (passed : ℕ) × PassedSoFar (g.R.Read.remaining l.initial.reader) (g.R.Read.remaining l.reader) l.initial.self l.self passed
    × (passed + l.left ≡ l.count)
