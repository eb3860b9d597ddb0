-- What is watched so far, and what the items that are left mean, is what all mean; and so it is told.
use Rattle.std.proofs.Common.{◌≡◌, ◌++◌, [], false, drop}
use Rattle.serde_json.specs.View.{items_view}
use Rattle.dap_requests.specs.Lists.{each, verified_told}
use Rattle.dap_requests.specs.Sets.{all_verified, all_watched}
use Rattle.dap_requests.proofs.watches.watched_all.Given as goal

abbrev pub invariant-loop-value : goal.invariant-loop-value
invariant-loop-value l =
    record {
      watched :
          l.watched.items ++ all_watched l.program.index (items_view (drop l.value-index l.items)) ≡ all_watched l.program.index (items_view l.items);
      told : l.initial.list.made.items ≡ [] → l.list.lacks ≡ false →
          each verified_told (items_view l.list.made.items) ++ all_verified l.program.index (items_view (drop l.value-index l.items))
          ≡ all_verified l.program.index (items_view l.items);
    }
