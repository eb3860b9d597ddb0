use Rattle.std.proofs.Common.{◌≡◌, ◌≤◌, List, ◌++◌, take}
use Rattle.serde_json.specs.Data.{items_depth, members_depth}
use Rattle.serde_json.specs.View.{items_view, members_view}
use Rattle.serde_json.proofs.Views.{Entry}
use Rattle.dap_messages.proofs.request.+nests.Given as goal

-- the values so far nest no deeper
abbrev pub invariant-all_within-loop-value : goal.invariant-all_within-loop-value
invariant-all_within-loop-value l = items_depth (items_view (take l.value-index l.values)) ≤ l.levels

-- so do the members
abbrev pub invariant-members_within-loop-name : goal.invariant-members_within-loop-name
invariant-members_within-loop-name l =
    (done : List Entry) × (l.members.entries ≡ done ++ l._name-iterator) × (members_depth (members_view done) ≤ l.levels)
