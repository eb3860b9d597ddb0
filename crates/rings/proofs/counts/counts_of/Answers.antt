use Rattle.std.proofs.Common.{◌<◌, ◌∙◌, ℕ, sym, subst, arith, ◌≡◌, slice_index}
use Rattle.rings.proofs.Tallied.{count-more, count-none}
use Rattle.rings.specs.internal.Tally.{edge, tally}
use Rattle.rings.proofs.counts.counts_of.Goals as goal

pub loop-number-init : goal.loop-number-init
loop-number-init c = (c.in_ok-counts.ensures.size, count-none c.args.edges.now c.in_ok-counts.counts.items c.in_ok-counts.ensures.zero)

pub loop-number-preserved : goal.loop-number-preserved
loop-number-preserved c = (
  c.in_ok-raise.ensures.size ∙ c.loop-number.invariant.0,
  count-more c.args.edges.now c.loop-number.number _ c.loop-number.counts.items c.raise.new.counts.items (omega arith) c.in_ok-raise.ensures.raised c.loop-number.invariant.1,
)

pub raise-requires : goal.raise-requires
raise-requires c = λ i u. subst (λ (k : ℕ). i < k) (sym c.loop-number.invariant.0) (c.requires c.loop-number.number i u)

pub returns-clause-counted : goal.returns-clause-counted
returns-clause-counted c = λ i.
    let past = c.loop-number-test.false in
    let upto = c.loop-number.auto.number-end in
    let all : c.loop-number.number ≡ c.args.rows = omega (arith, past, upto) in
    subst (λ (n : ℕ). slice_index c.loop-number.counts.items i ≡ tally (λ (j : ℕ). edge c.args.edges.now j i) n) all (c.loop-number.invariant.1 i)
