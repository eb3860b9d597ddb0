use Rattle.std.proofs.Common.{◌≡◌, drop}
use Rattle.types.specs.Arms.{new_labels}
use Rattle.types.specs.Findings.{and_all, demands}
use Rattle.types.specs.internal.Least.{least}
use Rattle.types.specs.internal.Owed.{with_all_seen}
use Rattle.types.proofs.arms.all_new.Given as goal

-- with the labels that are left, the outcome and the values seen are those of all
abbrev pub invariant-loop-label : goal.invariant-loop-label
invariant-loop-label l = record {
  made : and_all least l.outcome (new_labels l.width l.seen.keys (drop l.label-index l.labels)) ≡ demands least (new_labels l.width l.fn.seen.keys l.labels);
  seen : with_all_seen l.seen.keys (drop l.label-index l.labels) ≡ with_all_seen l.fn.seen.keys l.labels;
}
