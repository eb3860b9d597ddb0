use Rattle.std.proofs.Common.{take}
use Rattle.std.specs.Fmt.{HasWritten, IsPlainFormatter}
use Rattle.address.specs.Text.{text_of}
use Rattle.address.proofs.text.AddressDisplay.fmt.Given as goal

-- the texts of the entries passed are written
abbrev pub invariant-loop-entry : goal.invariant-loop-entry
invariant-loop-entry g l =
    IsPlainFormatter l.initial.f
    → HasWritten g.W.Write.write_str_gives l.initial.f (text_of (take l.entry-index l.entry-items)) l.f
