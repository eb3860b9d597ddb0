use Rattle.std.proofs.Common.{◌+◌, codes, refl}
use Rattle.serde_json.specs.Data.{number, string, unsigned}
use Rattle.dap_messages.proofs.public.Held.{has_put, has_stays}
use Rattle.dap_requests.proofs.choices.target.Goals as goal

pub returns : goal.returns
returns c =
    let d = number (unsigned (c.args.number + 1)) in
    has_stays c.number.new.self c.text.new.self (codes "id") (codes "label") d (string c.as_str.result.now) refl c.text.ensures
    (has_put c.new-target.result c.number.new.self (codes "id") d c.number.ensures)
