use Rattle.std.proofs.Common.{refl, codes}
use Rattle.serde_json.specs.Data.{object, string}
use Rattle.serde_json.specs.View.{members_view}
use Rattle.dap_messages.proofs.Heading.{has_stays}
use Rattle.dap_messages.proofs.message.add_format.Goals as goal

pub returns-then-contains-2 : goal.returns-then-contains-2
returns-then-contains-2 c = λ d k.
    has_stays c.text-then-contains-2.new.self c.object.new.self (codes "id") (codes "variables") d
    (object (members_view c.text.new.self.made.entries)) refl c.object.ensures.puts
    (has_stays c.args.error.now c.text-then-contains-2.new.self (codes "id") (codes "format") d (string (codes "{words}")) refl
    c.text-then-contains-2.ensures k)

pub returns-else-contains-2 : goal.returns-else-contains-2
returns-else-contains-2 c = λ d k.
    has_stays c.args.error.now c.text-else-contains-2.new.self (codes "id") (codes "format") d (string c.args.words.now) refl
    c.text-else-contains-2.ensures k
