use Rattle.std.proofs.Common.{List, Option, ℕ, ◌∙◌, ap, is_some}
use Rattle.dap_views.specs.declared.watched.Watched.{Watched}
use Rattle.dap_requests.specs.Sets.{watched_by}
use Rattle.dap_requests.proofs.Listing.{verified_more, watched_behind}
use Rattle.dap_requests.proofs.watches.watched_all.Goals as goal

pub loop-value-preserved : goal.loop-value-preserved
loop-value-preserved c =
    let index = c.args.program.now.index in
    let found = c.watched_by-found.ensures ∙ ap (λ (id : List ℕ). watched_by index id) c.id_in.ensures in
    record {
      watched =
          watched_behind index c.args.items.now c.loop-value.value-index c.value-item.result c.loop-value.watched.items c.add_watched.new.watched.items
          c.watched_by-found.result c.loop-value-test.true c.value-item.is found c.in_ok-add_watched.ensures c.loop-value.invariant.watched;
      told = λ empty full.
          verified_more index c.args.items.now c.loop-value.value-index c.value-item.result c.loop-value.list c.push.new.self c.shown.result
          c.is_some.result c.loop-value-test.true c.value-item.is (c.loop-value.invariant.told empty)
          (c.is_some.ensures ∙ ap (λ (w : Option Watched). is_some w) found) c.shown.ensures c.push.ensures full;
    }
