-- A procedure that begins early enough is among those that are left, if there is one.
use Rattle.std.proofs.Common.{◌≡◌, drop}
use Rattle.dap_views.specs.Lined.{is_inside}
use Rattle.dap_views.proofs.lines.Lines.is_inside.Given as goal

abbrev pub invariant-loop-heading : goal.invariant-loop-heading
invariant-loop-heading l = is_inside l.line (drop l.heading-index l.self.headings.items) ≡ is_inside l.line l.self.headings.items
