-- Those so far are told, and with those that are left they are all.
use Rattle.std.proofs.Common.{◌≡◌, ◌++◌, Some, drop, false}
use Rattle.serde_json.specs.View.{items_view}
use Rattle.dap_requests.specs.Lists.{each, verified_told}
use Rattle.dap_requests.proofs.watches.unwatched.Given as goal

abbrev pub invariant-loop-value : goal.invariant-loop-value
invariant-loop-value l =
    l.list.lacks ≡ false →
    each verified_told (items_view l.list.made.items) ++ each (λ d. Some false) (items_view (drop l.value-index l.items))
    ≡ each (λ d. Some false) (items_view l.items)
