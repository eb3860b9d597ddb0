-- The lines so far, and those of the items that are left, are those of all.
use Rattle.std.proofs.Common.{◌≡◌, ◌++◌, ℕ, List, drop, option_map}
use Rattle.serde_json.specs.View.{items_view}
use Rattle.dap_requests.specs.Sets.{lines_of}
use Rattle.dap_requests.proofs.breakpoints.lines_of.Given as goal

abbrev pub invariant-loop-item : goal.invariant-loop-item
invariant-loop-item l =
    option_map (λ (rest : List ℕ). l.lines.items ++ rest) (lines_of l.bare (items_view (drop l.item-index l.items)))
    ≡ lines_of l.bare (items_view l.items)
