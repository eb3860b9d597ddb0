use Rattle.serde_json.specs.Data.{array}
use Rattle.serde_json.specs.View.{items_view}
use Rattle.dap_messages.proofs.public.Held.{has_put}
use Rattle.dap_threads.proofs.values.listing.Goals as goal

pub returns-clause-lists : goal.returns-clause-lists
returns-clause-lists c =
    has_put c.new-body.result c.list.new.self c.args.name.now (array (items_view c.args.list.made.items)) c.list.ensures.puts
