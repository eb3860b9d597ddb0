use Rattle.std.proofs.Common.{refl, subst, ℕ, List, None, codes}
use Rattle.serde_json.specs.Data.{string, number, unsigned}
use Rattle.dap_messages.specs.Written.{Has}
use Rattle.dap_messages.proofs.Heading.{has_put, has_stays, holds_none, holds_stays}
use Rattle.dap_messages.proofs.message.response.Goals as goal

pub returns-clause-type_is : goal.returns-clause-type_is
returns-clause-type_is c =
    c.add_outcome.ensures.head.type (string (codes "response"))
    (has_stays c.number.new.self c.text-2.new.self (codes "type") (codes "command") (string (codes "response")) (string c.as_str.result.now) refl
    c.text-2.ensures
    (has_stays c.text.new.self c.number.new.self (codes "type") (codes "request_seq") (string (codes "response"))
    (number (unsigned c.args.request.now.seq)) refl c.number.ensures
    (has_put c.new-members.result c.text.new.self (codes "type") (string (codes "response")) c.text.ensures)))

pub returns-clause-request : goal.returns-clause-request
returns-clause-request c =
    let seq = number (unsigned c.args.request.now.seq) in
    c.add_outcome.ensures.head.request seq
    (has_stays c.number.new.self c.text-2.new.self (codes "request_seq") (codes "command") seq (string c.as_str.result.now) refl c.text-2.ensures
    (has_put c.text.new.self c.number.new.self (codes "request_seq") seq c.number.ensures))

pub returns-clause-command : goal.returns-clause-command
returns-clause-command c =
    subst (λ (name : List ℕ). Has c.add_outcome.new.members (codes "command") (string name)) c.as_str.ensures.value
    (c.add_outcome.ensures.head.command (string c.as_str.result.now)
    (has_put c.number.new.self c.text-2.new.self (codes "command") (string c.as_str.result.now) c.text-2.ensures))

pub returns-clause-outcome : goal.returns-clause-outcome
returns-clause-outcome c =
    let seq = number (unsigned c.args.request.now.seq) in
    c.add_outcome.ensures.outcome
    (holds_stays c.number.new.self c.text-2.new.self (codes "body") (codes "command") None (string c.as_str.result.now) refl c.text-2.ensures
    (holds_stays c.text.new.self c.number.new.self (codes "body") (codes "request_seq") None seq refl c.number.ensures
    (holds_stays c.new-members.result c.text.new.self (codes "body") (codes "type") None (string (codes "response")) refl c.text.ensures
    (holds_none c.new-members.result (codes "body") c.new-members.ensures))))
