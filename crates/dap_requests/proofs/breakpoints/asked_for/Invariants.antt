-- The breakpoints so far, and those on the lines that are left, are those on all.
use Rattle.std.proofs.Common.{◌≡◌, ◌++◌, drop}
use Rattle.dap_requests.specs.Sets.{asked_on}
use Rattle.dap_requests.proofs.breakpoints.asked_for.Given as goal

abbrev pub invariant-loop-line : goal.invariant-loop-line
invariant-loop-line l =
    l.asked.items ++ asked_on l.program.counting.lines l.id (drop l.line-index l.lines) ≡ asked_on l.program.counting.lines l.program.last_id l.lines
