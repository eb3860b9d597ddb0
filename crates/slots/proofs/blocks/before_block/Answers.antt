use Rattle.std.proofs.Common.{◌≡◌, ◌*◌, length, refl, arith}
use Rattle.slots.specs.Places.{rank}
use Rattle.slots.proofs.public.PlaceLaws.{rank-whole}
use Rattle.slots.proofs.blocks.before_block.Goals as goal

pub returns-then-number-blocks : goal.returns-then-number-blocks
returns-then-number-blocks g c =
    let none : rank c.args.slots.now.entries (64 * 0) ≡ 0 = refl in
    let sum = c.in_blocks.ensures in
    omega arith

pub returns : goal.returns
returns g c =
    let sum = c.in_blocks-2.ensures in
    let count = c.requires.count in
    let whole = rank-whole c.args.slots.now.entries (64 * length c.args.counts.now) c.requires.counted.all in
    omega arith
