-- The loop stops where an entry differs, or before the first.
use Rattle.std.proofs.Common.{◌≡◌, ℕ, zero, suc, ◌-◌, ◌≤◌, List, length, drop, refl, subst, arith}
use Rattle.address.specs.declared.Entry.{Entry}
use Rattle.address.proofs.Same.{same-behind, same-more}
use Rattle.address.proofs.are_same.Goals as goal

pub loop-index-init : goal.loop-index-init
loop-index-init c =
    let one : List Entry = c.args.one.now in
    let other : List Entry = c.args.other.now in
    let size : length one ≡ length other = omega arith in
    (omega arith, size, same-behind one other (length one) (omega arith) size)

pub loop-index-preserved : goal.loop-index-preserved
loop-index-preserved c =
    let one : List Entry = c.args.one.now in
    let other : List Entry = c.args.other.now in
    let more = c.loop-index-test.true in
    let next : c.loop-index.index ≡ suc (c.loop-index.index - 1) = omega arith in
    let within : c.loop-index.index ≤ length one = c.loop-index.invariant.0 in (
      omega arith,
      c.loop-index.invariant.1,
      same-more one other (c.loop-index.index - 1) c.loop-index.index _ next within c.loop-index.invariant.1
          (c.is_entry.ensures.0 c.if-not-is_entry.false) c.loop-index.invariant.2,
    )

pub returns : goal.returns
returns c =
    let few = c.loop-index-test.false in
    let none : c.loop-index.index ≡ zero = omega arith in (
      λ _. subst (λ (i : ℕ). drop i c.args.one.now ≡ drop i c.args.other.now) none c.loop-index.invariant.2,
      λ _. refl,
    )
