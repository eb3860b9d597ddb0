use Rattle.std.proofs.Common.{◌≡◌, ◌+◌, ◌≤◌, drop}
use Rattle.shell.specs.Lines.{ended_count}
use Rattle.shell.proofs.load.count_lines.Given as goal

-- the line ends of the rest stand behind those that were counted
abbrev pub invariant-loop-byte : goal.invariant-loop-byte
invariant-loop-byte l =
    (l.ended + ended_count (drop l.byte-index l.text) ≡ ended_count l.text) × (l.ended ≤ l.byte-index)
