use Rattle.std.proofs.Common.{drop, false, refl, take, true}
use Rattle.picture_data.specs.internal.SpotsSoFar.{deep_in, seen_in}
use Rattle.picture_data.proofs.SpotLaws.{adds_met, adds_new}
use Rattle.picture_data.proofs.places.add_ready_place.Goals as goal

pub returns-then-is_met : goal.returns-then-is_met
returns-then-is_met c =
    adds_met (seen_in c.args.machine.now c.args.now.now) (deep_in c.args.now.now) (take c.args.index c.args.now.now.ready.now)
    (drop c.args.index c.args.now.now.ready.now) c.split_at-parts.result.0.now c.args.place.now c.args.role true c.args.places.now.items
    c.args.places.now.items c.if-is_met.ensures c.split_at-parts.ensures.front refl refl

pub returns : goal.returns
returns c =
    adds_new (seen_in c.args.machine.now c.args.now.now) (deep_in c.args.now.now) (take c.args.index c.args.now.now.ready.now)
    (drop c.args.index c.args.now.now.ready.now) c.split_at-parts.result.0.now c.split_at-parts.result.1.now c.args.place.now c.args.role false
    c.args.places.now.items c.push.new.self.items c.in_ok-made.made c.in_ok-wanted.wanted.items c.if-is_met.ensures c.split_at-parts.ensures.front refl
    c.in_ok-wanted.ensures c.split_at-parts.ensures.back c.in_ok-made.ensures.spot c.in_ok-made.ensures.since c.in_ok-push.ensures.items
