-- Among the calls that are left the one with the name has the index that it has among all.
use Rattle.std.proofs.Common.{◌≡◌, drop}
use Rattle.dap_views.specs.Named.{call_named}
use Rattle.dap_views.proofs.index.call_named.Given as goal

abbrev pub invariant-loop-index : goal.invariant-loop-index
invariant-loop-index l = call_named l.index (drop l.index l.calls) l.prefix ≡ call_named 0 l.calls l.prefix
