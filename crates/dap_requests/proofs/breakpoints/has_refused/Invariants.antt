-- What is among the filters that are left is what is among all.
use Rattle.std.proofs.Common.{◌≡◌, drop}
use Rattle.serde_json.specs.View.{items_view}
use Rattle.dap_requests.specs.Sets.{has_refused}
use Rattle.dap_requests.proofs.breakpoints.has_refused.Given as goal

abbrev pub invariant-loop-filter : goal.invariant-loop-filter
invariant-loop-filter l = has_refused (items_view (drop l.filter-index l.filters)) ≡ has_refused (items_view l.filters)
