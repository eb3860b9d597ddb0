use Rattle.std.proofs.Common.{ℕ, List, Option, ap, ◌∙◌}
use Rattle.dap_requests.specs.Typed.{line_of}
use Rattle.dap_requests.proofs.entered.line_in.Goals as goal

pub returns : goal.returns
returns c = c.line_of.ensures ∙ ap (λ (found : Option (List ℕ)). line_of found) c.text.ensures
