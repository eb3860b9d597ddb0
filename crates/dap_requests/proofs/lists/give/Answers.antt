use Rattle.std.proofs.Common.{codes}
use Rattle.serde_json.specs.View.{view}
use Rattle.dap_requests.proofs.Listing.{listed_in}
use Rattle.dap_requests.proofs.Setting.{has_put}
use Rattle.dap_requests.proofs.lists.give.Goals as goal

pub returns-clause-list : goal.returns-clause-list
returns-clause-list c = λ full.
    let done = c.body.ensures.body full in
    listed_in c.body.new.self.outcome c.value.new.self (view c.args.list) done.1
    (has_put c.new-body.result c.value.new.self (codes "breakpoints") (view c.args.list) c.value.ensures done.0)
