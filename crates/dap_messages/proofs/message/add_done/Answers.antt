use Rattle.std.proofs.Common.{refl, true, None, codes}
use Rattle.serde_json.specs.Data.{boolean}
use Rattle.dap_messages.proofs.Heading.{has_put, holds_stays, keeps_on, keeps_put}
use Rattle.dap_messages.proofs.message.add_done.Goals as goal

pub returns-clause-head : goal.returns-clause-head
returns-clause-head c =
    keeps_on c.args.members.now c.flag.new.self c.add_body.new.members
    (keeps_put c.args.members.now c.flag.new.self (codes "success") (boolean true) refl refl refl refl c.flag.ensures) c.add_body.ensures.head

pub returns-clause-success : goal.returns-clause-success
returns-clause-success c =
    c.add_body.ensures.success (boolean true) (has_put c.args.members.now c.flag.new.self (codes "success") (boolean true) c.flag.ensures)

pub returns-clause-body : goal.returns-clause-body
returns-clause-body c = λ none.
    c.add_body.ensures.body
    (holds_stays c.args.members.now c.flag.new.self (codes "body") (codes "success") None (boolean true) refl c.flag.ensures none)
