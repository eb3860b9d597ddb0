use Rattle.std.proofs.Common.{refl, true}
use Rattle.serde_json.specs.Data.{object}
use Rattle.serde_json.specs.View.{members_view, view}
use Rattle.dap_messages.proofs.Heading.{lacks_put, lacks_whole, puts_view}
use Rattle.dap_messages.proofs.members.Members.object.Goals as goal

pub returns-in-Some-clause-puts : goal.returns-in-Some-clause-puts
returns-in-Some-clause-puts c =
    puts_view c.args.self.now c.value.new.self c.args.name.now (view c.in-Some.value) (object (members_view c.args.members.made.entries))
    c.in-Some.ensures.1 c.value.ensures

pub returns-in-None-clause-puts : goal.returns-in-None-clause-puts
returns-in-None-clause-puts c =
    lacks_put c.args.self.now (record c.args.self.now { lacks = true }) c.args.name.now (object (members_view c.args.members.made.entries)) refl

pub returns-in-None-clause-whole : goal.returns-in-None-clause-whole
returns-in-None-clause-whole c = lacks_whole c.args.members (record c.args.self.now { lacks = true }) refl
