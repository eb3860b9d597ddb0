-- Those among the names before are listed.
use Rattle.std.proofs.Common.{take}
use Rattle.dap_threads.specs.Variables.{variables_of}
use Rattle.dap_threads.specs.internal.Listing.{ListsNamed}
use Rattle.dap_threads.proofs.values.variables_of.Given as goal

abbrev pub invariant-loop-named : goal.invariant-loop-named
invariant-loop-named l = ListsNamed l.list (variables_of (take l.named-index l.program.index.names.items) l.instance)
