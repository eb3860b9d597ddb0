use Rattle.std.proofs.Common.{◌≡◌, ◌++◌, ◌+◌, ◌≤◌, length, take}
use Rattle.std.specs.Vec.{vec_len, vec_capacity}
use Rattle.line_text.proofs.text.add_word.Given as goal

-- the bytes passed are written, and there is room for the others
abbrev pub invariant-loop-byte : goal.invariant-loop-byte
invariant-loop-byte l = record {
  written : l.out.items ≡ l.initial.out.items ++ take l.byte-index l.word;
  room : vec_len l.out + length l.word ≤ vec_capacity l.out + l.byte-index;
}
