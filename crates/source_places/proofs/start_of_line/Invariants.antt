use Rattle.std.proofs.Common.{◌≡◌, ◌+◌, ◌<◌, ◌≤◌}
use Rattle.source_places.specs.Places.{BeginsLine, ends_before}
use Rattle.source_places.proofs.start_of_line.Given as goal

abbrev pub invariant-loop-index : goal.invariant-loop-index
invariant-loop-index l = record {
  begins : BeginsLine l.text l.index l.start;
  line : l.ended ≡ ends_before l.text l.start + 1;
  here : ends_before l.text l.index ≡ ends_before l.text l.start;
  few : l.ended ≤ l.index + 1;
  still : 0 < l.line → l.ended ≤ l.line;
}
