use Rattle.std.proofs.Common.{ℕ, List, Option, ap, ◌∙◌}
use Rattle.dap_requests.specs.Typed.{is_console}
use Rattle.dap_requests.proofs.entered.in_console.Goals as goal

pub returns : goal.returns
returns c = c.is_console.ensures ∙ ap (λ (found : Option (List ℕ)). is_console found) c.text.ensures
