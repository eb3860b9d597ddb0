use Rattle.std.proofs.Common.{◌≡◌, drop}
use Rattle.sharing_check.specs.internal.Counting.{table_of_widths, with_environment}
use Rattle.sharing_check.proofs.widths.add_environment.Given as goal

abbrev pub invariant-loop-outside : goal.invariant-loop-outside
invariant-loop-outside l =
    with_environment (table_of_widths l.widths) (drop l.outside-index l.environment) ≡ with_environment (table_of_widths l.initial.widths) l.environment
