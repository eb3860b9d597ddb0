use Rattle.std.proofs.Common.{◌≡◌, drop}
use Rattle.picture_data.specs.Wanted.{with_uses}
use Rattle.picture_data.proofs.partners.add_uses.Given as goal

abbrev pub invariant-loop-used : goal.invariant-loop-used
invariant-loop-used l =
    with_uses l.now.table.now l.own l.channel l.role (drop l.used-index l.now.uses.now) l.lanes.items
    ≡ with_uses l.now.table.now l.own l.channel l.role l.now.uses.now l.initial.lanes.items
