use Rattle.std.proofs.Common.{◌≢◌, ◌<◌, ◌≤◌, List, ℕ, length, subst, arith}
use Rattle.std.specs.Prelude.{slice_set}
use Rattle.shell_desk.specs.internal.Sleeping.{SleepBut}
use Rattle.shell_desk.proofs.SleepLemmas.{as-many, others-sleep, woken}
use Rattle.shell_desk.proofs.marks.Marks.wake.Goals as goal

pub returns : goal.returns
returns c =
    let bytes = c.self.inside.bytes.items in
    subst (λ (xs : List ℕ). SleepBut c.args.branch xs (slice_set bytes c.args.branch 0)) c.self.view_is (woken bytes c.args.branch)

pub invariant_of-self : goal.invariant_of-self
invariant_of-self c i low high =
    let bytes = c.self.inside.bytes.items in
    let other : i ≢ c.args.branch = λ same. omega (arith, low, same, c.max-self-inside.ensures) in
    let from : c.self.inside.end ≤ i = omega (arith, low, c.max-self-inside.ensures) in
    let within : i < length bytes = omega (arith, high, as-many bytes c.args.branch 0) in
    others-sleep bytes c.args.branch i other (c.self.invariant i from within)
