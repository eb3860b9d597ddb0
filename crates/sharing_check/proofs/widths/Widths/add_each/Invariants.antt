use Rattle.std.proofs.Common.{◌≡◌, nat_eq}
use Rattle.std.specs.List.{IsDistinct}
use Rattle.std.specs.Map.{keys_of}
use Rattle.sharing_check.specs.internal.Counting.{join, table_of_widths, listed}
use Rattle.sharing_check.proofs.widths.Widths.add_each.Given as goal

-- with the uses that are left, the table says what both say
abbrev pub invariant-loop-channel : goal.invariant-loop-channel
invariant-loop-channel l = record {
  both : join l.how (table_of_widths l.self) (listed l.channel-iterator) ≡ join l.how (table_of_widths l.initial.self) (table_of_widths l.other);
  apart : IsDistinct nat_eq (keys_of l.channel-iterator);
}
