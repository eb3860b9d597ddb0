use Rattle.std.proofs.Common.{codes, map}
use Rattle.serde_json.specs.View.{view}
use Rattle.dap_threads.proofs.Unfolding.{gives_list}
use Rattle.dap_threads.proofs.standing.threads.Goals as goal

pub returns-in-Some : goal.returns-in-Some
returns-in-Some c = λ full.
    let list = c.thread_list-list.result in (
      map view list.made.items,
      gives_list (codes "threads") c.listing.result list c.body.new.self c.listing.ensures.lists c.body.ensures.body full,
      c.thread_list-list.ensures (c.listing.ensures.whole (c.body.ensures.body full).0),
    )
