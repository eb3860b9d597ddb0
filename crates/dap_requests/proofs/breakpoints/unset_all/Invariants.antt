-- Those before are told.
use Rattle.std.proofs.Common.{take}
use Rattle.dap_requests.specs.Lists.{Tells, none_shown, stand_told}
use Rattle.dap_requests.proofs.breakpoints.unset_all.Given as goal

abbrev pub invariant-loop-line : goal.invariant-loop-line
invariant-loop-line l = Tells stand_told (none_shown (take l.line-index l.lines)) l.list
