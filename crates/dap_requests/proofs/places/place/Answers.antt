use Rattle.std.proofs.Common.{codes, ℕ, subst}
use Rattle.serde_json.specs.Data.{number, unsigned}
use Rattle.dap_messages.specs.Written.{Has}
use Rattle.dap_requests.proofs.Setting.{has_put}
use Rattle.dap_requests.proofs.places.place.Goals as goal

pub returns : goal.returns
returns c =
    subst (λ (n : ℕ). Has c.number-2.new.self (codes "line") (number (unsigned n))) c.shown_line.ensures
    (has_put c.number.new.self c.number-2.new.self (codes "line") (number (unsigned c.shown_line.result)) c.number-2.ensures)
