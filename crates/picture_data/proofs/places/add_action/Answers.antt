use Rattle.std.specs.Option.{option_copied}
use Rattle.picture_data.specs.internal.SpotsSoFar.{deep_in, seen_in}
use Rattle.picture_data.proofs.SpotLaws.{added-kept, added-last, added-since, added-spots}
use Rattle.picture_data.proofs.places.add_action.Goals as goal

pub returns-clause-spots : goal.returns-clause-spots
returns-clause-spots c =
    added-spots (seen_in c.args.machine.now c.args.now.now) (deep_in c.args.now.now) c.args.action.now (option_copied c.args.partner) c.args.places.now.items
    c.place_for.new.places.items c.push.new.self.items c.in_ok-place.place c.add_wanted.new.place c.in_ok-place.ensures
    c.in_ok-add_wanted.ensures.spot c.in_ok-push.ensures.items

pub returns-clause-since : goal.returns-clause-since
returns-clause-since c = λ each.
    added-since (seen_in c.args.machine.now c.args.now.now) (deep_in c.args.now.now) c.args.action.now c.args.places.now.items c.place_for.new.places.items
    c.push.new.self.items c.in_ok-place.place c.add_wanted.new.place c.in_ok-place.ensures c.in_ok-add_wanted.ensures.since
    c.in_ok-add_wanted.ensures.place c.in_ok-push.ensures.items each

pub returns-clause-kept : goal.returns-clause-kept
returns-clause-kept c = λ k a at.
    added-kept (seen_in c.args.machine.now c.args.now.now) (deep_in c.args.now.now) c.args.action.now c.args.places.now.items c.place_for.new.places.items
    c.push.new.self.items c.in_ok-place.place c.add_wanted.new.place c.in_ok-place.ensures c.in_ok-add_wanted.ensures.place
    c.in_ok-push.ensures.items k a at

pub returns-clause-last : goal.returns-clause-last
returns-clause-last c =
    added-last (seen_in c.args.machine.now c.args.now.now) (deep_in c.args.now.now) c.args.action.now c.args.places.now.items c.place_for.new.places.items
    c.push.new.self.items c.in_ok-place.place c.add_wanted.new.place c.in_ok-place.ensures c.in_ok-add_wanted.ensures.place
    c.in_ok-push.ensures.items
