use Rattle.std.proofs.Common.{◌≡◌, ◌∙◌, ℕ, true, false, slice_index_or, sym, subst, true≢false, arith}
use Rattle.rings.specs.internal.Search.{same_at}
use Rattle.rings.proofs.Places.{not-here, not-there}
use Rattle.std.proofs.lemmas.Option.{slice_get-get_or}
use Rattle.rings.proofs.ring.index_on.Goals as goal

pub loop-index-preserved : goal.loop-index-preserved
loop-index-preserved c = λ j i m.
    not-here c.args.way.now c.loop-index.index 0 j (omega arith)
    (λ e.
    let at : same_at c.args.actions.now (slice_index_or c.args.way.now c.loop-index.index 0) c.args.action ≡ true =
    subst (λ (k : ℕ). same_at c.args.actions.now k c.args.action ≡ true) (sym e) m in
    let both : true ≡ false = sym at ∙ sym c.is_at_one.ensures ∙ c.if-is_at_one.false in
    true≢false both)
    (c.loop-index.invariant j i m)

pub returns : goal.returns
returns c = λ j i m. not-there c.args.way.now c.loop-index.index j (omega arith) (c.loop-index.invariant j i m)

pub returns-then-is_at_one : goal.returns-then-is_at_one
returns-then-is_at_one c = (
  slice_index_or c.args.way.now c.loop-index.index 0,
  slice_get-get_or c.args.way.now c.loop-index.index 0 c.loop-index-test.true,
  sym c.if-is_at_one.ensures,
)
