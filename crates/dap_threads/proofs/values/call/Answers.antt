use Rattle.std.proofs.Common.{ℕ, codes, subst}
use Rattle.serde_json.specs.Data.{number, unsigned}
use Rattle.dap_messages.specs.Written.{Has}
use Rattle.dap_messages.proofs.public.Held.{has_put}
use Rattle.dap_threads.proofs.values.call.Goals as goal

pub returns : goal.returns
returns c = λ small.
    subst (λ (n : ℕ). Has c.number.new.self (codes "variablesReference") (number (unsigned n))) (c.reference.ensures small)
    (has_put c.text-2.new.self c.number.new.self (codes "variablesReference") (number (unsigned c.reference.result)) c.number.ensures)
