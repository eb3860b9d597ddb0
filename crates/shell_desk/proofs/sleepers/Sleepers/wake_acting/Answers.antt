use Rattle.std.proofs.Common.{◌<◌, ◌≤◌, length, arith, refl}
use Rattle.shell_desk.proofs.SleepLemmas.{acting-begins, acting-ends, acting-more}
use Rattle.shell_desk.proofs.sleepers.Sleepers.wake_acting.Goals as goal

pub loop-channel-init : goal.loop-channel-init
loop-channel-init c = acting-begins c.args.ends.now c.args.channels.now c.args.self.now.asleep

pub loop-channel-preserved : goal.loop-channel-preserved
loop-channel-preserved c =
    let less : c.loop-channel.channel-index < length c.args.channels.now = omega arith in
    acting-more c.args.ends.now c.args.channels.now c.loop-channel.channel-index _ c.args.self.now.asleep
    c.loop-channel.self.asleep c.wake_on.new.self.asleep less refl c.loop-channel.invariant c.wake_on.ensures

pub returns : goal.returns
returns c =
    let past : length c.args.channels.now ≤ c.loop-channel.channel-index = omega arith in
    acting-ends c.args.ends.now c.args.channels.now c.loop-channel.channel-index c.args.self.now.asleep
    c.loop-channel.self.asleep past c.loop-channel.invariant
