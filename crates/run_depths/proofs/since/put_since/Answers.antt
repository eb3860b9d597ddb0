use Rattle.run_depths.proofs.SinceLaws.{found-inside, found-last}
use Rattle.run_depths.proofs.since.put_since.Goals as goal

pub greatest_behind-requires-clause-inside : goal.greatest_behind-requires-clause-inside
greatest_behind-requires-clause-inside c =
    found-inside c.args.depths.now c.args.table.now c.args.place.now c.new-found.result.items c.put.new.found.items c.as_slice.result.now
    c.requires.inside c.new-found.ensures.items c.in_ok-put.ensures.found c.as_slice.ensures.value

pub returns-clause-since : goal.returns-clause-since
returns-clause-since c = (
  c.as_slice.result.now,
  found-last c.args.table.now c.args.place.now c.new-found.result.items c.put.new.found.items c.as_slice.result.now c.new-found.ensures.items
      c.in_ok-put.ensures.found c.as_slice.ensures.value,
  c.greatest_behind.ensures,
)
