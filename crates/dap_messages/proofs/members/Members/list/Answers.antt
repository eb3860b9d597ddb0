use Rattle.std.proofs.Common.{◌≡◌, false, true, refl}
use Rattle.serde_json.specs.Data.{array}
use Rattle.serde_json.specs.View.{items_view, view}
use Rattle.dap_messages.proofs.Heading.{lacks_put, puts_view}
use Rattle.dap_messages.proofs.members.Members.list.Goals as goal

pub returns-in-Some-clause-puts : goal.returns-in-Some-clause-puts
returns-in-Some-clause-puts c =
    puts_view c.args.self.now c.value.new.self c.args.name.now (view c.in-Some.value) (array (items_view c.args.list.made.items))
    c.in-Some.ensures.1 c.value.ensures

pub returns-in-None-clause-puts : goal.returns-in-None-clause-puts
returns-in-None-clause-puts c =
    lacks_put c.args.self.now (record c.args.self.now { lacks = true }) c.args.name.now (array (items_view c.args.list.made.items)) refl

pub returns-in-None-clause-whole : goal.returns-in-None-clause-whole
returns-in-None-clause-whole c = λ full. let both : true ≡ false = full in absurd (cc)
