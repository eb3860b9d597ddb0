use Rattle.std.proofs.Common.{◌≡◌, drop, length, refl, sym, ap, subst, true≢false, ◌∙◌, arith}
use Rattle.dependence.proofs.WayLaws.{drop-whole}
use Rattle.dependence.proofs.ways.is_same.Goals as goal

pub returns-then-one-other : goal.returns-then-one-other
returns-then-one-other c = (
  (λ on. absurd (true≢false (sym on))),
  (λ same. absurd (c.if-one-other.true (ap length same))),
)

pub loop-index-init : goal.loop-index-init
loop-index-init c =
    let same : length c.args.one.now ≡ length c.args.other.now = omega (arith, c.if-one-other.false) in
    record {
      within = omega arith;
      behind = drop-whole c.args.one.now (length c.args.one.now) (omega arith) ∙ sym (drop-whole c.args.other.now (length c.args.one.now) (omega (arith, same)));
    }

pub returns : goal.returns
returns c =
    let none : c.loop-index.index ≡ 0 = omega (arith, c.loop-index-test.false) in (
      (λ on. subst (λ n. drop n c.args.one.now ≡ drop n c.args.other.now) none c.loop-index.invariant.behind),
      (λ same. refl),
    )
