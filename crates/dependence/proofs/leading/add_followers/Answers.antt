use Rattle.std.proofs.Common.{◌≡◌, ◌⊎◌, ◌↔◌, inl, inr, ◌<◌, ◌≤◌, ◌-◌, ℕ, List, suc, length, drop, sym, subst, arith}
use Rattle.syntax.specs.Lists.{In}
use Rattle.dependence.proofs.Along.{added-next}
use Rattle.dependence.proofs.public.ListPlaces.{drop-all}
use Rattle.dependence.proofs.leading.add_followers.Goals as goal

pub loop-index-init : goal.loop-index-init
loop-index-init c =
    let fs : List ℕ = c.followers_of-followers.result.now in
    record {
      range = omega arith;
      told = λ u. subst (λ (ks : List ℕ). In u c.args.pending.now.items ↔ (In u c.args.pending.now.items ⊎ (In u ks × (u ≤ c.args.last)))) (sym (drop-all fs (length fs) (omega arith)))
          ((λ i. inl i), (λ k. elim k [ inl o ↦ o | inr n ↦ absurd n.0 ]));
    }

pub loop-index-preserved : goal.loop-index-preserved
loop-index-preserved c =
    let fs : List ℕ = c.followers_of-followers.result.now in
    let p : ℕ = c.loop-index.index - 1 in
    let test = c.loop-index-test.true in
    let range : c.loop-index.index ≤ length fs = c.loop-index.invariant.range in
    let less : p < length fs = omega arith in
    let back : c.loop-index.index ≡ suc p = omega arith in
    record {
      range = omega arith;
      told = added-next fs c.args.pending.now.items c.loop-index.pending.items c.add_if.new.pending.items p c.args.last c.is_at_most-is_one.result less c.is_at_most-is_one.ensures
          (c.add_if.ensures c.if-not-add_if.false)
          (subst (λ (k : ℕ). (u : ℕ) → In u c.loop-index.pending.items ↔ (In u c.args.pending.now.items ⊎ (In u (drop k fs) × (u ≤ c.args.last)))) back c.loop-index.invariant.told);
    }

pub returns : goal.returns
returns c = λ yes u.
    let lists = c.followers_of-followers.ensures in
    let first : c.loop-index.index ≡ 0 = omega (arith, c.loop-index-test.false) in
    let told =
    subst (λ (k : ℕ). (v : ℕ) → In v c.loop-index.pending.items ↔ (In v c.args.pending.now.items ⊎ (In v (drop k c.followers_of-followers.result.now) × (v ≤ c.args.last)))) first
    c.loop-index.invariant.told u in (
      (λ i. elim (told.0 i) [ inl o ↦ inl o | inr k ↦ inr ((lists.exactly u).0 k.0, k.1) ]),
      (λ k. elim k [ inl o ↦ told.1 (inl o) | inr n ↦ told.1 (inr ((lists.exactly u).1 n.0, n.1)) ]),
    )
