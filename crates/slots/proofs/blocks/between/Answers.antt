use Rattle.std.proofs.Common.{◌≡◌, ◌∙◌, ◌+◌, ℕ, ap, arith}
use Rattle.slots.specs.Places.{rank}
use Rattle.slots.proofs.public.PlaceLaws.{rank-low}
use Rattle.slots.proofs.blocks.between.Goals as goal

pub loop-place-init : goal.loop-place-init
loop-place-init g c = omega arith

pub overflow_add-sum : goal.overflow_add-sum
overflow_add-sum g c =
    let sum = c.loop-place.invariant in
    let next = c.items_at-sum.ensures.next in
    let low = rank-low c.args.slots.now.entries (c.loop-place.place + 1) in
    let test = c.loop-place-test.true in
    let within = c.requires.within in
    let len = c.len-len.ensures.len in
    let small = c.len-len.ensures.small in
    omega arith

pub loop-place-preserved : goal.loop-place-preserved
loop-place-preserved g c =
    let sum = c.loop-place.invariant in
    let next = c.items_at-sum.ensures.next in
    omega arith

pub returns : goal.returns
returns g c =
    let test = c.loop-place-test.false in
    let order = c.requires.order in
    let end : c.loop-place.place ≡ c.args.end = omega arith in
    c.loop-place.invariant ∙ ap (λ (k : ℕ). rank c.args.slots.now.entries k) end
