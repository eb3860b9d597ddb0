use Rattle.std.proofs.Common.{◌≡◌, ℕ, List, ◌++◌, ◌+◌, ◌≤◌, length}
use Rattle.std.specs.Io.KnownBytes.{Appends}
use Rattle.devices.proofs.output.write_out.Given as goal

-- what is given and the rest are the bytes, no more than that is not sent on yet, and nothing failed
abbrev pub invariant-loop-rest : goal.invariant-loop-rest
invariant-loop-rest g l =
    ((given : List ℕ) × Appends (g.W.CountedWrite.contents l.initial.writer) (g.W.CountedWrite.contents l.writer) given × (given ++ l.rest ≡ l.bytes)
    × (g.W.CountedWrite.unsent l.writer ≤ g.W.CountedWrite.unsent l.initial.writer + length given))
    × (g.W.CountedWrite.failed l.writer ≡ g.W.CountedWrite.failed l.initial.writer)

abbrev pub decreases-loop-rest : goal.decreases-loop-rest
decreases-loop-rest g l = g.W.CountedWrite.tries l.writer + length l.rest
