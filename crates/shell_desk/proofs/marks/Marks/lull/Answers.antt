use Rattle.std.proofs.Common.{◌≡◌, ◌⊎◌, ◌<◌, List, ℕ, length, subst, arith}
use Rattle.std.specs.Prelude.{slice_set}
use Rattle.shell_desk.specs.internal.Sleeping.{IsAsleep}
use Rattle.shell_desk.proofs.SleepLemmas.{as-many, lulled, still-sleeps}
use Rattle.shell_desk.proofs.marks.Marks.lull.Goals as goal

pub returns : goal.returns
returns c =
    let bytes = c.self.inside.bytes.items in
    subst (λ (xs : List ℕ).
    (i : ℕ) → IsAsleep (slice_set bytes c.args.branch 1) i → IsAsleep xs i ⊎ (i ≡ c.args.branch)) c.self.view_is
    (lulled bytes c.args.branch)

pub invariant_of-self : goal.invariant_of-self
invariant_of-self c i low high =
    let bytes = c.self.inside.bytes.items in
    let within : i < length bytes = omega (arith, high, as-many bytes c.args.branch 1) in
    still-sleeps bytes c.args.branch i (c.self.invariant i low within)
