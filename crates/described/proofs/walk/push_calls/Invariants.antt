-- What is put on the work tells what the calls that are left do not.
use Rattle.std.proofs.Common.{◌≡◌, List, length, reverse, take}
use Rattle.types.specs.declared.tree.Procedure.{Procedure}
use Rattle.described.specs.Telling.{Found, tell_calls, tellings}
use Rattle.described.specs.internal.Pendings.{leads}
use Rattle.described.proofs.walk.push_calls.Given as goal

abbrev pub invariant-calls : goal.invariant-calls
invariant-calls l =
    (procedures : List Procedure) (found : Found) →
    leads procedures (reverse l.work) (tell_calls (tellings (take l.earlier procedures)) l.entered 0 l.calls found)
    ≡ leads procedures (reverse l.initial.work) (tell_calls (tellings (take l.earlier procedures)) l.entered 0 l.initial.calls found)

abbrev pub decreases-calls : goal.decreases-calls
decreases-calls l = length l.calls
