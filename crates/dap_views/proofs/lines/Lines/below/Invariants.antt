-- The next procedure is among those that are left, if there is one.
use Rattle.std.proofs.Common.{◌≡◌, drop}
use Rattle.dap_views.specs.Lined.{below}
use Rattle.dap_views.proofs.lines.Lines.below.Given as goal

abbrev pub invariant-loop-heading : goal.invariant-loop-heading
invariant-loop-heading l = below l.line l.self.behind (drop l.heading-index l.self.headings.items) ≡ below l.line l.self.behind l.self.headings.items
