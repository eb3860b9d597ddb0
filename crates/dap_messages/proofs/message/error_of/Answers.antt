use Rattle.std.proofs.Common.{refl, true, codes}
use Rattle.serde_json.specs.Data.{boolean, number, unsigned}
use Rattle.dap_messages.proofs.Heading.{has_put, has_stays}
use Rattle.dap_messages.proofs.message.error_of.Goals as goal

pub returns : goal.returns
returns c =
    let id = number (unsigned c.args.why) in
    has_stays c.add_format.new.error c.flag.new.self (codes "id") (codes "showUser") id (boolean true) refl c.flag.ensures
    (c.add_format.ensures id (has_put c.new-error.result c.number.new.self (codes "id") id c.number.ensures))
