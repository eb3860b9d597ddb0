use Rattle.std.proofs.Common.{◌≡◌, ◌+◌, ◌*◌, ℕ, get_or, refl, ap, arith}
use Rattle.std.proofs.lemmas.Option.{slice_get-get_or}
use Rattle.slots.specs.Places.{rank}
use Rattle.slots.proofs.public.PlaceLaws.{place-left}
use Rattle.slots.proofs.public.CountLaws.{block-left}
use Rattle.slots.proofs.blocks.block_at.Goals as goal

pub loop-number-init : goal.loop-number-init
loop-number-init g c = let zero : rank c.args.slots.now.entries (64 * 0) ≡ 0 = refl in omega arith

pub bounds-counts-number : goal.bounds-counts-number
bounds-counts-number g c =
    let sum = c.loop-number.invariant in
    let within = c.requires.within in
    block-left c.args.slots.now.entries c.args.counts.now c.loop-number.number c.requires.counted (omega arith)

pub overflow_add-number : goal.overflow_add-number
overflow_add-number g c =
    let sum = c.loop-number.invariant in
    let within = c.requires.within in
    let place = place-left c.args.slots.now.entries (64 * c.loop-number.number) (omega arith) in
    let small = c.len-len.ensures.small in
    let len = c.len-len.ensures.len in
    omega arith

pub loop-number-smaller : goal.loop-number-smaller
loop-number-smaller g c =
    let sum = c.loop-number.invariant in
    let within = c.requires.within in
    let less = block-left c.args.slots.now.entries c.args.counts.now c.loop-number.number c.requires.counted (omega arith) in
    omega arith

pub loop-number-preserved : goal.loop-number-preserved
loop-number-preserved g c =
    let sum = c.loop-number.invariant in
    let within = c.requires.within in
    let less = block-left c.args.slots.now.entries c.args.counts.now c.loop-number.number c.requires.counted (omega arith) in
    let told = c.requires.counted.blocks c.loop-number.number (get_or c.args.counts.now c.loop-number.number 0) (slice_get-get_or c.args.counts.now c.loop-number.number 0 less) in
    let next : 64 * (c.loop-number.number + 1) ≡ 64 * c.loop-number.number + 64 = omega arith in
    let same : rank c.args.slots.now.entries (64 * (c.loop-number.number + 1)) ≡ rank c.args.slots.now.entries (64 * c.loop-number.number + 64) =
    ap (λ (k : ℕ). rank c.args.slots.now.entries k) next in
    let test = c.loop-number-test.true in
    omega arith

pub returns-clause-within : goal.returns-clause-within
returns-clause-within g c =
    let sum = c.loop-number.invariant in
    let within = c.requires.within in
    place-left c.args.slots.now.entries (64 * c.loop-number.number) (omega arith)
