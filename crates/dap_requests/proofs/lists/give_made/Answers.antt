use Rattle.std.proofs.Common.{codes}
use Rattle.serde_json.specs.Data.{array}
use Rattle.serde_json.specs.View.{items_view}
use Rattle.dap_requests.proofs.Listing.{listed_in}
use Rattle.dap_requests.proofs.Setting.{has_put}
use Rattle.dap_requests.proofs.lists.give_made.Goals as goal

pub returns-clause-list : goal.returns-clause-list
returns-clause-list c = λ full.
    let done = c.body.ensures.body full in
    let items = array (items_view c.args.list.made.items) in (
      c.list.ensures.whole done.0,
      listed_in c.body.new.self.outcome c.list.new.self items done.1
          (has_put c.new-body.result c.list.new.self (codes "breakpoints") items c.list.ensures.puts done.0),
    )
