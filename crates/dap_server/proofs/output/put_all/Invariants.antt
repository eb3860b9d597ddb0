use Rattle.std.proofs.Common.{◌≤◌, length, take}
use Rattle.std.specs.Io.KnownBytes.{Appends}
use Rattle.dap_server.proofs.output.put_all.Given as goal

-- so many bytes are written
abbrev pub invariant-loop : goal.invariant-loop
invariant-loop g l =
    (l.done ≤ length l.bytes)
    × Appends (g.W.Write.contents l.initial.writer) (g.W.Write.contents l.writer) (take l.done l.bytes)
