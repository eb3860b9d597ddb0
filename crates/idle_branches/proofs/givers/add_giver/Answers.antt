use Rattle.std.proofs.Common.{◌<◌, ◌≤◌, length, arith, refl}
use Rattle.idle_branches.proofs.GiverLemmas.{given-begins, given-ends, given-more}
use Rattle.idle_branches.proofs.givers.add_giver.Goals as goal

pub loop-channel-init : goal.loop-channel-init
loop-channel-init c = given-begins c.args.channels.now c.args.branch c.args.givers.now

pub loop-channel-preserved : goal.loop-channel-preserved
loop-channel-preserved c =
    let less : c.loop-channel.channel-index < length c.args.channels.now = omega arith in
    given-more c.args.channels.now c.loop-channel.channel-index _ c.args.branch c.args.givers.now c.loop-channel.givers
    c.add_giver_on.new.givers less refl c.loop-channel.invariant c.add_giver_on.ensures.own c.add_giver_on.ensures.others

pub returns : goal.returns
returns c =
    let past : length c.args.channels.now ≤ c.loop-channel.channel-index = omega arith in
    record {
      own = given-ends c.args.channels.now c.loop-channel.channel-index c.args.branch c.args.givers.now c.loop-channel.givers past
          c.loop-channel.invariant;
      others = c.loop-channel.invariant.others;
    }
