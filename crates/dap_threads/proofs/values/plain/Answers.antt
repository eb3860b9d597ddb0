use Rattle.std.proofs.Common.{codes, refl}
use Rattle.serde_json.specs.Data.{number, string, unsigned}
use Rattle.dap_messages.proofs.public.Held.{has_put, has_stays}
use Rattle.dap_threads.proofs.values.plain.Goals as goal

pub returns-clause-name_is : goal.returns-clause-name_is
returns-clause-name_is c =
    let d = string c.args.name.now in
    has_stays c.text-2.new.self c.number.new.self (codes "name") (codes "variablesReference") d (number (unsigned 0)) refl c.number.ensures
    (has_stays c.text.new.self c.text-2.new.self (codes "name") (codes "value") d (string c.args.value.now) refl c.text-2.ensures
    (has_put c.new-members.result c.text.new.self (codes "name") d c.text.ensures))

pub returns-clause-leaf : goal.returns-clause-leaf
returns-clause-leaf c = has_put c.text-2.new.self c.number.new.self (codes "variablesReference") (number (unsigned 0)) c.number.ensures
