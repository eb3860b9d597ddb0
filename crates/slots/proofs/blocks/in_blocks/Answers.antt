use Rattle.std.proofs.Common.{◌≡◌, ◌∙◌, ◌+◌, ◌*◌, ◌<◌, ℕ, length, get_or, ap, arith}
use Rattle.std.proofs.lemmas.Option.{slice_get-get_or}
use Rattle.slots.specs.Places.{rank}
use Rattle.slots.proofs.public.PlaceLaws.{rank-within, filled-short}
use Rattle.slots.proofs.blocks.in_blocks.Goals as goal

pub loop-at-init : goal.loop-at-init
loop-at-init g c = omega arith

pub overflow_add-sum : goal.overflow_add-sum
overflow_add-sum g c =
    let sum = c.loop-at.invariant in
    let within = c.requires.within in
    let test = c.loop-at-test.true in
    let less : c.loop-at.at < length c.args.counts.now = omega arith in
    let told = c.requires.counted.blocks c.loop-at.at (get_or c.args.counts.now c.loop-at.at 0) (slice_get-get_or c.args.counts.now c.loop-at.at 0 less) in
    let most = rank-within c.args.slots.now.entries (64 * c.loop-at.at + 64) in
    let short = filled-short c.args.slots.now.entries in
    let len = c.len-len.ensures.len in
    let small = c.len-len.ensures.small in
    omega arith

pub loop-at-preserved : goal.loop-at-preserved
loop-at-preserved g c =
    let sum = c.loop-at.invariant in
    let within = c.requires.within in
    let test = c.loop-at-test.true in
    let less : c.loop-at.at < length c.args.counts.now = omega arith in
    let told = c.requires.counted.blocks c.loop-at.at (get_or c.args.counts.now c.loop-at.at 0) (slice_get-get_or c.args.counts.now c.loop-at.at 0 less) in
    let next : 64 * c.loop-at.at + 64 ≡ 64 * (c.loop-at.at + 1) = omega arith in
    let same = ap (λ (k : ℕ). rank c.args.slots.now.entries k) next in
    omega arith

pub returns : goal.returns
returns g c =
    let test = c.loop-at-test.false in
    let order = c.requires.order in
    c.loop-at.invariant ∙ ap (λ (k : ℕ). rank c.args.slots.now.entries (64 * k)) (omega arith)
