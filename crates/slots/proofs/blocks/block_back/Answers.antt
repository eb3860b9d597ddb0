use Rattle.std.proofs.Common.{◌≡◌, ◌*◌, inl, inr, ℕ, length, refl, ap, arith}
use Rattle.std.proofs.lemmas.Bool.{cases_lt}
use Rattle.slots.specs.Places.{rank}
use Rattle.slots.proofs.public.PlaceLaws.{rank-whole}
use Rattle.slots.proofs.blocks.block_back.Goals as goal

pub loop-before-init : goal.loop-before-init
loop-before-init g c =
    let count = c.requires.count in
    let whole = rank-whole c.args.slots.now.entries (64 * length c.args.counts.now) c.requires.counted.all in
    record { within = omega arith; sum = omega arith }

pub overflow_sub-number : goal.overflow_sub-number
overflow_sub-number g c =
    let zero : rank c.args.slots.now.entries (64 * 0) ≡ 0 = refl in
    let sum = c.loop-before.invariant.sum in
    let test = c.loop-before-test.true in
    elim (cases_lt 0 c.loop-before.number) [
      | inl some ↦ omega arith
      | inr none ↦
          let is : 64 * c.loop-before.number ≡ 64 * 0 = omega arith in
          let first : rank c.args.slots.now.entries (64 * c.loop-before.number) ≡ rank c.args.slots.now.entries (64 * 0) = ap (λ (k : ℕ). rank c.args.slots.now.entries k) is in
          absurd (omega arith)
    ]
