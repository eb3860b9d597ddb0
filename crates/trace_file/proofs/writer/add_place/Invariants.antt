use Rattle.std.proofs.Common.{◌≡◌, ◌++◌, take}
use Rattle.address.specs.Reading.{NumbersFit}
use Rattle.address.specs.Text.{text_of}
use Rattle.trace_file.proofs.writer.add_place.Given as goal

-- the entries passed are written, and their numbers have 32 bits
abbrev pub invariant-loop-entry : goal.invariant-loop-entry
invariant-loop-entry l =
    (l.out.items ≡ l.initial.out.items ++ text_of (take l.entry-index l.place)) × NumbersFit (take l.entry-index l.place)
