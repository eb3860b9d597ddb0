use Rattle.std.proofs.Common.{◌≡◌, ◌<◌, ◌^◌, take}
use Rattle.std.specs.Str.Parse.{digits_value}
use Rattle.decimal.proofs.value.Given as goal

-- the value of the digits passed, below 2^64
abbrev pub invariant-loop-digit : goal.invariant-loop-digit
invariant-loop-digit l = (l.number < 2 ^ 64) × (l.number ≡ digits_value 10 (take l.digit-index l.digits))
