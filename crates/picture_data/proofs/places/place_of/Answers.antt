use Rattle.std.proofs.Common.{List, sym, subst}
use Rattle.address.specs.declared.Entry.{Entry}
use Rattle.run_depths.specs.Since.{IsSince}
use Rattle.picture_data.proofs.places.place_of.Goals as goal

pub since_now-since-requires : goal.since_now-since-requires
since_now-since-requires c = c.requires.order

pub returns-clause-since : goal.returns-clause-since
returns-clause-since c =
    subst (λ (a : List Entry). IsSince c.args.now.now.live.now.live c.args.now.now.depths.now a c.since_now-since.result) (sym c.in_ok-place.ensures)
    (c.since_now-since.ensures c.args.now.now.live.now.live c.args.now.now.depths.now c.requires)
