-- With what the characters that are left are shown as, it is all.
use Rattle.std.proofs.Common.{◌≡◌, ◌++◌, length, string_bytes, flat_map, encode_utf8}
use Rattle.marked_lines.specs.Marks.{shown}
use Rattle.marked_lines.proofs.part.add_shown.Given as goal

abbrev pub invariant-chars : goal.invariant-chars
invariant-chars l = string_bytes l.out ++ flat_map (λ c. encode_utf8 (shown c)) l.chars ≡ string_bytes l.initial.out ++ flat_map (λ c. encode_utf8 (shown c)) l.initial.chars

abbrev pub decreases-chars : goal.decreases-chars
decreases-chars l = length l.chars
