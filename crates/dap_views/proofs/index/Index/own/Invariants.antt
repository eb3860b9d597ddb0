-- What is declared among the names that are left is what is declared among all.
use Rattle.std.proofs.Common.{◌≡◌, drop}
use Rattle.dap_views.specs.Named.{declared}
use Rattle.dap_views.proofs.index.Index.own.Given as goal

abbrev pub invariant-loop-named : goal.invariant-loop-named
invariant-loop-named l = declared (drop l.named-index l.self.names.items) l.instance l.own ≡ declared l.self.names.items l.instance l.own
