use Rattle.std.proofs.Common.{◌≡◌, ◌++◌, length}
use Rattle.shell_desk.specs.Tidied.{behind_field, first_field}
use Rattle.shell_desk.proofs.tidy.add_field.Given as goal

-- what is added of the rest stands behind what is added, and the same stands behind it
abbrev pub invariant-loop-rest : goal.invariant-loop-rest
invariant-loop-rest l =
    (l.out.items ++ first_field l.rest ≡ l.initial.out.items ++ first_field l.fn.text)
    × (behind_field l.rest ≡ behind_field l.fn.text)

abbrev pub decreases-loop-rest : goal.decreases-loop-rest
decreases-loop-rest l = length l.rest
