use Rattle.std.proofs.Common.{◌<◌, ◌-◌, ◌∙◌, length, map, refl, sym, eqb-true, arith}
use Rattle.dependence.proofs.SearchLaws.{split-all, split-last, split-none, length-places}
use Rattle.dependence.proofs.search.count_less.Goals as goal

pub returns-then-is_behind : goal.returns-then-is_behind
returns-then-is_behind g c =
    split-all (map g.T.Placed.place c.args.seats.now) c.args.place.now (length c.args.seats.now) (sym (length-places g.T.Placed.place c.args.seats.now))
    (c.is_behind.ensures.all c.if-is_behind.true)

pub returns-then-is_behind-2 : goal.returns-then-is_behind-2
returns-then-is_behind-2 g c =
    split-last (map g.T.Placed.place c.args.seats.now) c.args.place.now (length c.args.seats.now) (length c.args.seats.now - 1)
    (sym (length-places g.T.Placed.place c.args.seats.now)) refl (c.is_behind.ensures.none c.if-is_behind.false) (c.is_behind-2.ensures.all c.if-is_behind-2.true)

pub overflow_sub-fewer : goal.overflow_sub-fewer
overflow_sub-fewer g c = let last = c.is_behind.ensures.none c.if-is_behind.false in let some : 0 < length c.args.seats.now = last.some in omega arith

pub returns-then-is_empty : goal.returns-then-is_empty
returns-then-is_empty g c =
    split-none (map g.T.Placed.place c.args.seats.now) c.args.place.now (eqb-true _ _ (sym c.is_empty.ensures ∙ c.if-is_empty.true))
