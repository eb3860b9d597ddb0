use Rattle.std.proofs.Common.{ℕ, List, Option, ap, ◌∙◌}
use Rattle.dap_requests.specs.Typed.{is_marked}
use Rattle.dap_requests.proofs.entered.has_mark.Goals as goal

pub returns : goal.returns
returns c = c.is_marked.ensures ∙ ap (λ (found : Option (List ℕ)). is_marked found) c.text.ensures
