-- With those among the tokens that are left, they are all.
use Rattle.std.proofs.Common.{◌≡◌, ◌++◌, None, drop, map}
use Rattle.dap_views.specs.Lined.{heading_lines}
use Rattle.dap_views.specs.declared.lines.Heading.{Heading}
use Rattle.dap_views.proofs.lines.headings_among.Given as goal

abbrev pub invariant-loop-token : goal.invariant-loop-token
invariant-loop-token l =
    map (λ (h : Heading). h.line) l.headings.items ++ heading_lines l.begun (drop l.token-index l.tokens) ≡ heading_lines None l.tokens
