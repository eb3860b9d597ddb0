use Rattle.std.proofs.Common.{ℕ, List, codes, refl, string_bytes, subst}
use Rattle.serde_json.specs.Data.{number, string, unsigned}
use Rattle.dap_messages.specs.Written.{Has}
use Rattle.dap_messages.proofs.public.Held.{has_put, has_stays}
use Rattle.dap_threads.proofs.values.variable.Goals as goal

pub returns-clause-name_is : goal.returns-clause-name_is
returns-clause-name_is c =
    let d = string (string_bytes c.args.named.now.own) in
    has_stays c.text-4.new.self c.number-2.new.self (codes "name") (codes "variablesReference") d (number (unsigned 0)) refl c.number-2.ensures
    (has_stays c.text-3.new.self c.text-4.new.self (codes "name") (codes "evaluateName") d (string c.as_str-4.result.now) refl c.text-4.ensures
    (has_stays c.text-2.new.self c.text-3.new.self (codes "name") (codes "type") d (string c.as_str-3.result.now) refl c.text-3.ensures
    (has_stays c.text.new.self c.text-2.new.self (codes "name") (codes "value") d (string c.as_str-2.result.now) refl c.text-2.ensures
    (subst (λ (xs : List ℕ). Has c.text.new.self (codes "name") (string xs)) c.as_str.ensures.value
    (has_put c.new-members.result c.text.new.self (codes "name") (string c.as_str.result.now) c.text.ensures)))))

pub returns-clause-leaf : goal.returns-clause-leaf
returns-clause-leaf c = has_put c.text-4.new.self c.number-2.new.self (codes "variablesReference") (number (unsigned 0)) c.number-2.ensures
