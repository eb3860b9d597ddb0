use Rattle.std.proofs.Common.{codes, false, refl}
use Rattle.serde_json.specs.Data.{boolean, number, unsigned}
use Rattle.dap_requests.proofs.Setting.{has_put, has_stays}
use Rattle.dap_requests.proofs.breakpoints.unset.Goals as goal

pub returns-clause-verified : goal.returns-clause-verified
returns-clause-verified c =
    has_stays c.flag.new.self c.number.new.self (codes "verified") (codes "line") (boolean false) (number (unsigned c.args.line)) refl c.number.ensures
    (has_put c.text.new.self c.flag.new.self (codes "verified") (boolean false) c.flag.ensures)

pub returns-clause-line_is : goal.returns-clause-line_is
returns-clause-line_is c = has_put c.flag.new.self c.number.new.self (codes "line") (number (unsigned c.args.line)) c.number.ensures
