use Rattle.dependence.proofs.TicketLaws.{parts-all, parts-last}
use Rattle.std.proofs.Common.{◌<◌, length, arith}
use Rattle.dependence.proofs.tickets.count_below.Goals as goal

pub returns-then-is_behind : goal.returns-then-is_behind
returns-then-is_behind c = parts-all c.args.tickets.now c.args.bound (c.is_behind.ensures.all c.if-is_behind.true)

pub overflow_sub-fewer : goal.overflow_sub-fewer
overflow_sub-fewer c = let last = c.is_behind.ensures.none c.if-is_behind.false in let some : 0 < length c.args.tickets.now = last.some in omega arith

pub returns-then-is_behind-2 : goal.returns-then-is_behind-2
returns-then-is_behind-2 c =
    parts-last c.args.tickets.now c.args.bound (c.is_behind.ensures.none c.if-is_behind.false) (c.is_behind-2.ensures.all c.if-is_behind-2.true)
