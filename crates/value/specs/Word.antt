-- Unsigned numbers of a width, and what the operations on them give.
-- Each operation is total on records, also on those that are no words.
use Rattle.std.specs.Prelude.{ℕ, ◌+◌, ◌-◌, ◌%◌, ◌^◌, ◌<◌, ◌≤◌, max, if◌then◌else◌, bit_and, bit_or, bit_xor}
use Rattle.std.specs.Int.Count.{count_leading_zeros}
use Rattle.value.specs.declared.Comparison.{Comparison}
use Rattle.value.specs.Comparison.{holds}

-- an unsigned number, and its width in bits
pub record Word : Type 0 where
  pub bits : ℕ
  pub width : ℕ

-- the most bits that a number has
abbrev pub most_bits : ℕ
most_bits = 64

-- a number of bits from 1 to that
abbrev pub IsWidth : ℕ → Type 0
IsWidth n = (1 ≤ n) × (n ≤ most_bits)

-- the width is from 1 to 64, and the number fits it
abbrev pub IsWord : Word → Type 0
IsWord w = IsWidth w.width × (w.bits < 2 ^ w.width)

-- the wider of the two widths
abbrev pub common_width : Word → Word → ℕ
common_width a b = max a.width b.width

-- the sum, one bit wider than the wider operand
abbrev pub sum_of : Word → Word → Word
sum_of a b = record { bits = (a.bits + b.bits) % 2 ^ (common_width a b + 1); width = common_width a b + 1 }

-- the difference modulo 2 ^ w, where w is the width of the wider operand
abbrev pub difference_of : Word → Word → Word
difference_of a b = record {
  bits = (a.bits + (2 ^ common_width a b - b.bits % 2 ^ common_width a b)) % 2 ^ common_width a b;
  width = common_width a b;
}

-- the bits that both have
abbrev pub and_of : Word → Word → Word
and_of a b = record { bits = bit_and a.bits b.bits; width = common_width a b }

-- the bits that one or both have
abbrev pub or_of : Word → Word → Word
or_of a b = record { bits = bit_or a.bits b.bits; width = common_width a b }

-- the bits that just one has
abbrev pub xor_of : Word → Word → Word
xor_of a b = record { bits = bit_xor a.bits b.bits; width = common_width a b }

-- each bit of the width is flipped
abbrev pub complement_of : Word → Word
complement_of a = record { bits = 2 ^ a.width - 1 - a.bits; width = a.width }

-- 1 where the comparison is true of the two numbers, and else 0: one bit
abbrev pub comparison_of : Comparison → Word → Word → Word
comparison_of op a b = record { bits = if holds op a.bits b.bits then 1 else 0; width = 1 }

-- the low w bits, or the number as it is with zeros above it
abbrev pub resized : Word → ℕ → Word
resized v w = record { bits = v.bits % 2 ^ w; width = w }

-- the least width of at least 1 that holds n, for n below 2 ^ 64: n has as many binary digits
unfoldable pub least_width_of : ℕ → ℕ
least_width_of n = max (64 - count_leading_zeros 64 n) 1
