use Rattle.std.proofs.Common.{◌∙◌, map, sym}
use Rattle.dependence.proofs.SearchLaws.{split-all, length-places}
use Rattle.dependence.proofs.search.parts_at.Goals as goal

pub returns-then-count-seats : goal.returns-then-count-seats
returns-then-count-seats g c = λ on.
    split-all (map g.T.Placed.place c.args.seats.now) c.args.place.now c.args.count (c.if-count-seats.true ∙ sym (length-places g.T.Placed.place c.args.seats.now))
    (c.is_behind.ensures.all c.if-not-is_behind.false)
