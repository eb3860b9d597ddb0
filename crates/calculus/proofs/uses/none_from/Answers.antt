use Rattle.std.proofs.Common.{◌<◌, ℕ, List, take, get_or, sym, subst, ◌∙◌, true≢false, arith}
use Rattle.syntax.specs.Lists.{In}
use Rattle.dependence.specs.LastEvents as last
use Rattle.calculus.proofs.Alikeness.{some-from, none-past, all-past}
use Rattle.calculus.proofs.ListPlaces.{number-got, taken-more, got-in}
use Rattle.calculus.proofs.uses.none_from.Goals as goal

pub returns-then-is_some : goal.returns-then-is_some
returns-then-is_some c =
    let y = get_or c.args.variables.now c.loop-variable.variable-index 0 in
    let at = number-got c.args.variables.now c.loop-variable.variable-index c.loop-variable-test.true in
    let found = some-from c.args.table.now y c.args.place c.args.count c.first.result c.first.ensures (sym c.is_some.ensures ∙ c.if-is_some.true) in (
      λ h. absurd (true≢false (sym h)),
      λ h.
          let less : found.0 < c.args.place =
          h y found.0 (got-in c.args.variables.now c.loop-variable.variable-index y at) found.1.uses found.1.less in
          absurd (omega (arith, found.1.starts)),
    )

pub loop-variable-preserved : goal.loop-variable-preserved
loop-variable-preserved c =
    let i = c.loop-variable.variable-index in
    let y = get_or c.args.variables.now i 0 in
    let at = number-got c.args.variables.now i c.loop-variable-test.true in
    subst (λ (xs : List ℕ). (x t : ℕ) → In x xs → last.Uses c.args.table.now x t → t < c.args.count → t < c.args.place) (sym (taken-more c.args.variables.now i y at))
    (all-past c.args.table.now (take i c.args.variables.now) y c.args.place c.args.count c.loop-variable.invariant
    (none-past c.args.table.now y c.args.place c.args.count c.first.result c.first.ensures (sym c.is_some.ensures ∙ c.if-is_some.false)))
