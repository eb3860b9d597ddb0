use Rattle.std.proofs.Common.{◌≡◌, ◌⊎◌, ◌↔◌, ℕ, List, take, get_or, sym, subst}
use Rattle.syntax.specs.Lists.{In}
use Rattle.dependence.specs.LastEvents as last
use Rattle.calculus.proofs.Alikeness.{put-more}
use Rattle.calculus.proofs.ListPlaces.{number-got, taken-more}
use Rattle.calculus.proofs.uses.put_all.Goals as goal

pub loop-variable-preserved : goal.loop-variable-preserved
loop-variable-preserved c =
    let i = c.loop-variable.variable-index in
    let y = get_or c.args.variables.now i 0 in
    let at = number-got c.args.variables.now i c.loop-variable-test.true in
    subst (λ (xs : List ℕ). (x t : ℕ) → last.Uses c.put.new.self x t ↔ (last.Uses c.args.table.now x t ⊎ (In x xs × (t ≡ c.args.place))))
    (sym (taken-more c.args.variables.now i y at))
    (put-more c.args.table.now c.loop-variable.table c.put.new.self (take i c.args.variables.now) y c.args.place c.loop-variable.invariant c.in_ok-put.ensures.put)
