use Rattle.std.proofs.Common.{◌≡◌, ◌∙◌, List, ℕ, Option, false, is_some, ap, sym}
use Rattle.picture_lanes.specs.internal.Placing.{place_of}
use Rattle.picture_lanes.proofs.Placed.{goes_last}
use Rattle.picture_lanes.proofs.table.add_lane.Goals as goal

pub returns-clause-lanes : goal.returns-clause-lanes
returns-clause-lanes c =
    let off : is_some (place_of c.args.places.now c.args.lane.path) ≡ false =
    sym (ap (λ (p : List ℕ). is_some (place_of c.args.places.now p)) c.as_slice.ensures) ∙ sym (ap (λ (o : Option ℕ). is_some o) c.find.ensures) ∙ sym c.if-is_some.ensures in
    (goes_last c.args.lanes.now c.push.new.self c.args.places.now c.add.new.self c.args.lane c.as_slice-2.result.now c.len.result c.requires off
    c.as_slice-2.ensures c.len.ensures c.in_ok-add.ensures c.in_ok-push.ensures.ok).0

pub returns-clause-placed : goal.returns-clause-placed
returns-clause-placed c =
    let off : is_some (place_of c.args.places.now c.args.lane.path) ≡ false =
    sym (ap (λ (p : List ℕ). is_some (place_of c.args.places.now p)) c.as_slice.ensures) ∙ sym (ap (λ (o : Option ℕ). is_some o) c.find.ensures) ∙ sym c.if-is_some.ensures in
    (goes_last c.args.lanes.now c.push.new.self c.args.places.now c.add.new.self c.args.lane c.as_slice-2.result.now c.len.result c.requires off
    c.as_slice-2.ensures c.len.ensures c.in_ok-add.ensures c.in_ok-push.ensures.ok).1
