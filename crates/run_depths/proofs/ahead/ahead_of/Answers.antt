use Rattle.dependence.proofs.public.ListPlaces.{in-at, in-read}
use Rattle.run_depths.proofs.public.Deepening.{ahead-all, ahead-next}
use Rattle.run_depths.proofs.ahead.ahead_of.Goals as goal

pub followers-followers-requires : goal.followers-followers-requires
followers-followers-requires c = (c.requires.0, in-at c.args.live.now.live c.args.index (c.args.ticket, c.requires.0) c.requires.1)

pub distance-requires-clause-live : goal.distance-requires-clause-live
distance-requires-clause-live c =
    let f = (c.followers-followers.ensures.exactly _).0 (in-read c.followers-followers.result.now c.loop-follower.follower-index c.loop-follower-test.true) in
    (f.dependent.dependent, f.dependent.dependent_live)

pub distance-requires-clause-later : goal.distance-requires-clause-later
distance-requires-clause-later c =
    let f = (c.followers-followers.ensures.exactly _).0 (in-read c.followers-followers.result.now c.loop-follower.follower-index c.loop-follower-test.true) in
    f.dependent.less

pub loop-follower-preserved : goal.loop-follower-preserved
loop-follower-preserved c =
    let rising = c.is_sound.ensures.rising in
    ahead-next 0 rising.0 c.args.live.now.live c.args.index c.loop-follower.follower-index c.distance.result c.followers-followers.result.now
    c.loop-follower.ahead c.push.new.self rising.1 c.followers-followers.ensures.ascending c.loop-follower-test.true c.distance.ensures c.loop-follower.invariant c.in_ok-push.ensures.ok

pub returns : goal.returns
returns c =
    ahead-all c.args.live.now.live c.args.index c.args.ticket c.loop-follower.follower-index c.followers-followers.result.now c.loop-follower.ahead
    c.followers-followers.ensures c.loop-follower-test.false c.loop-follower.invariant
