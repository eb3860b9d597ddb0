use Rattle.std.proofs.Common.{ℕ, List, [], ◌∷◌, inl, inr, sym, subst, arith}
use Rattle.std.proofs.lemmas.Bool.{cases_eq}
use Rattle.runs.proofs.public.Lists.{in-left, in-right}
use Rattle.syntax.specs.Lists.{In}
use Rattle.rings.proofs.deadlock.all_numbers.Goals as goal

pub loop-number-preserved : goal.loop-number-preserved
loop-number-preserved c = λ i less.
    subst (λ (l : List ℕ). In i l) (sym c.in_ok-push.ensures.items)
    (elim (cases_eq i c.loop-number.number) [
      | inl same ↦ in-right i c.loop-number.numbers.items (c.loop-number.number ∷ []) (inl same)
      | inr apart ↦ in-left i c.loop-number.numbers.items (c.loop-number.number ∷ []) (c.loop-number.invariant i (omega (arith, less, apart)))
    ])
