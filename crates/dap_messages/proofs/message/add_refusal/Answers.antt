use Rattle.std.proofs.Common.{refl, false, codes}
use Rattle.serde_json.specs.Data.{boolean, object, string}
use Rattle.serde_json.specs.View.{members_view}
use Rattle.dap_messages.proofs.Heading.{has_error, has_put, has_stays, keeps_on, keeps_put}
use Rattle.dap_messages.proofs.message.add_refusal.Goals as goal

pub returns-clause-head : goal.returns-clause-head
returns-clause-head c =
    let whole = object (members_view c.object.new.self.made.entries) in
    keeps_on c.args.members.now c.flag.new.self c.object-2.new.self
    (keeps_put c.args.members.now c.flag.new.self (codes "success") (boolean false) refl refl refl refl c.flag.ensures)
    (keeps_on c.flag.new.self c.text.new.self c.object-2.new.self
    (keeps_put c.flag.new.self c.text.new.self (codes "message") (string c.args.words.now) refl refl refl refl c.text.ensures)
    (keeps_put c.text.new.self c.object-2.new.self (codes "body") whole refl refl refl refl c.object-2.ensures.puts))

pub returns-clause-success : goal.returns-clause-success
returns-clause-success c =
    let whole = object (members_view c.object.new.self.made.entries) in
    has_stays c.text.new.self c.object-2.new.self (codes "success") (codes "body") (boolean false) whole refl c.object-2.ensures.puts
    (has_stays c.flag.new.self c.text.new.self (codes "success") (codes "message") (boolean false) (string c.args.words.now) refl c.text.ensures
    (has_put c.args.members.now c.flag.new.self (codes "success") (boolean false) c.flag.ensures))

pub returns-clause-message : goal.returns-clause-message
returns-clause-message c =
    let whole = object (members_view c.object.new.self.made.entries) in
    has_stays c.text.new.self c.object-2.new.self (codes "message") (codes "body") (string c.args.words.now) whole refl c.object-2.ensures.puts
    (has_put c.flag.new.self c.text.new.self (codes "message") (string c.args.words.now) c.text.ensures)

pub returns-clause-error : goal.returns-clause-error
returns-clause-error c =
    has_error c.error_of.result c.object.new.self c.text.new.self c.object-2.new.self c.args.number c.error_of.ensures
    (has_put c.new-body.result c.object.new.self (codes "error") (object (members_view c.error_of.result.made.entries)) c.object.ensures.puts)
    c.object.ensures.whole c.object-2.ensures.puts c.object-2.ensures.whole
