use Rattle.std.proofs.Common.{ℕ, List, Option, ap, ◌∙◌}
use Rattle.dap.specs.Meeting.{is_path}
use Rattle.dap.proofs.face.names_paths.Goals as goal

pub returns : goal.returns
returns c = c.is_path.ensures ∙ ap (λ (found : Option (List ℕ)). is_path found) c.text.ensures
