use Rattle.std.proofs.Common.{refl, subst, ℕ, List, None, codes}
use Rattle.serde_json.specs.Data.{string}
use Rattle.dap_messages.specs.Written.{Has}
use Rattle.dap_messages.proofs.Heading.{has_put, has_stays, holds_none, holds_stays}
use Rattle.dap_messages.proofs.message.event.Goals as goal

pub returns-clause-type_is : goal.returns-clause-type_is
returns-clause-type_is c =
    c.add_body.ensures.head.type (string (codes "event"))
    (has_stays c.text.new.self c.text-2.new.self (codes "type") (codes "event") (string (codes "event")) (string c.name.result.now) refl c.text-2.ensures
    (has_put c.new-members.result c.text.new.self (codes "type") (string (codes "event")) c.text.ensures))

pub returns-clause-event : goal.returns-clause-event
returns-clause-event c =
    subst (λ (name : List ℕ). Has c.add_body.new.members (codes "event") (string name)) c.name.ensures
    (c.add_body.ensures.head.event (string c.name.result.now)
    (has_put c.text.new.self c.text-2.new.self (codes "event") (string c.name.result.now) c.text-2.ensures))

pub returns-clause-body : goal.returns-clause-body
returns-clause-body c =
    c.add_body.ensures.body
    (holds_stays c.text.new.self c.text-2.new.self (codes "body") (codes "event") None (string c.name.result.now) refl c.text-2.ensures
    (holds_stays c.new-members.result c.text.new.self (codes "body") (codes "type") None (string (codes "event")) refl c.text.ensures
    (holds_none c.new-members.result (codes "body") c.new-members.ensures)))
