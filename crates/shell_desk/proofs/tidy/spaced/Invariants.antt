use Rattle.std.proofs.Common.{◌≡◌, ◌++◌, drop}
use Rattle.shell_desk.specs.Tidied.{tidy_from}
use Rattle.shell_desk.specs.declared.tidy.Part.TheVariants.{Start}
use Rattle.shell_desk.proofs.tidy.spaced.Given as goal

-- what is made of the rest stands behind what is made
abbrev pub invariant-loop-byte : goal.invariant-loop-byte
invariant-loop-byte l = l.out.items ++ tidy_from l.part (drop l.byte-index l.line) ≡ tidy_from Start l.line
