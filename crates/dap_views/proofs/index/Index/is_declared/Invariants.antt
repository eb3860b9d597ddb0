use Rattle.std.proofs.Common.{◌≡◌, drop}
use Rattle.dap_views.specs.Named.{is_declared}
use Rattle.dap_views.proofs.index.Index.is_declared.Given as goal

abbrev pub invariant-loop-named : goal.invariant-loop-named
invariant-loop-named l =
    is_declared (drop l.named-index l.self.names.items) l.own ≡ is_declared l.self.names.items l.own
