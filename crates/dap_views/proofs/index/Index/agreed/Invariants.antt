-- With the names that are left, what is found is what all agree on.
use Rattle.std.proofs.Common.{◌≡◌, drop, None}
use Rattle.dap_views.specs.Named.{agreed}
use Rattle.dap_views.proofs.index.Index.agreed.Given as goal

abbrev pub invariant-loop-named : goal.invariant-loop-named
invariant-loop-named l = agreed l.found (drop l.named-index l.self.names.items) l.own ≡ agreed None l.self.names.items l.own
