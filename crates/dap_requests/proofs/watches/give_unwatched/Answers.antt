use Rattle.std.proofs.Common.{Some, false}
use Rattle.serde_json.specs.View.{items_view}
use Rattle.dap_requests.specs.Lists.{each, verified_told}
use Rattle.dap_requests.proofs.Listing.{lists_made}
use Rattle.dap_requests.proofs.watches.give_unwatched.Goals as goal

pub returns : goal.returns
returns c =
    lists_made verified_told (each (λ d. Some false) (items_view c.args.items.now)) c.unwatched-list.result c.give_made.new.answer
    c.unwatched-list.ensures c.give_made.ensures.list
