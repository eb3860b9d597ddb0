-- With the lines that begin in the bytes that are left, they are all.
use Rattle.std.proofs.Common.{◌≡◌, ◌++◌, ◌∷◌, drop}
use Rattle.dap_views.specs.Lined.{begins_behind}
use Rattle.dap_views.proofs.lines.begins_of.Given as goal

abbrev pub invariant-loop-offset : goal.invariant-loop-offset
invariant-loop-offset l = l.begins.items ++ begins_behind l.offset (drop l.offset l.source) ≡ 0 ∷ begins_behind 0 l.source
