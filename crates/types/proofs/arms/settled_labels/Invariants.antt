use Rattle.std.proofs.Common.{◌≡◌, drop, map}
use Rattle.types.specs.Arms.{judged_label, judged_labels}
use Rattle.types.specs.internal.Scopes.{entries}
use Rattle.types.specs.Findings.{with_all}
use Rattle.types.specs.internal.Least.{least}
use Rattle.types.proofs.arms.settled_labels.Given as goal

-- with the labels that are left, those so far are all
abbrev pub invariant-loop-label : goal.invariant-loop-label
invariant-loop-label l =
    with_all least l.settled (map (judged_label (entries l.scope.names) l.opened) (drop l.label-index l.labels))
    ≡ judged_labels least (entries l.scope.names) l.opened l.labels
