use Rattle.std.proofs.Common.{sym, arith}
use Rattle.slots.proofs.public.PlaceLaws.{rank-full, rank-low}
use Rattle.slots.proofs.blocks.index_at.Goals as goal

pub returns-then-count-len : goal.returns-then-count-len
returns-then-count-len g c =
    let test = c.if-count-len.true in
    let len = c.len.ensures.len in
    let count = c.requires.count in
    let within = c.requires.within in
    sym (rank-full c.args.slots.now.entries c.args.place (omega arith) (omega arith))

pub overflow_add-result : goal.overflow_add-result
overflow_add-result g c =
    let one = c.before_block-2.ensures in
    let two = c.between-2.ensures in
    let low = rank-low c.args.slots.now.entries c.args.place in
    let within = c.requires.within in
    let len = c.len.ensures.len in
    let small = c.len.ensures.small in
    omega arith
