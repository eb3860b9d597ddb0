use Rattle.std.proofs.Common.{◌∙◌, ℕ, List, length, sym, ap, subst}
use Rattle.slots.specs.Places.{Counted}
use Rattle.dependence.proofs.Edges.{take-whole}
use Rattle.dependence.proofs.live_list.settle.Goals as goal

pub returns-then-count-len-clause-counted : goal.returns-then-count-len-clause-counted
returns-then-count-len-clause-counted c =
    let counts : List ℕ = c.close_up.new.counts in
    let size = c.close_up.auto.counts ∙ ap length c.as_mut_slice.ensures.value in
    let whole = take-whole counts c.args.counts.now.items c.args.counts.now.len size (sym c.as_mut_slice.ensures.len ∙ ap length c.as_mut_slice.ensures.value) in
    subst (λ (cs : List ℕ). Counted c.close_up.new.slots.entries cs) (sym whole) c.close_up.ensures.counted
