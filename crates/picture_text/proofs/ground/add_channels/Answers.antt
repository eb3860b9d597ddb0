use Rattle.std.proofs.Common.{codes, map}
use Rattle.std.proofs.lemmas.Result.{on_ok_weaker}
use Rattle.picture_text.specs.DataText.{channel_text}
use Rattle.picture_text.proofs.Rows.{all-rows, listed-member}
use Rattle.picture_text.proofs.ground.add_channels.Goals as goal

pub returns : goal.returns
returns c =
    on_ok_weaker c.close_list.result
    (λ is. listed-member c.args.json.now c.name.new.self c.open_list.new.self c.loop-channel.json c.close_list.new.self (codes "channels")
    (map channel_text c.args.system.now.channels) c.in_ok-name.ensures c.in_ok-open_list.ensures
    (all-rows channel_text c.args.system.now.channels c.as_slice-channel-items.result.now c.loop-channel.channel-index c.loop-channel.json c.open_list.new.self c.as_slice-channel-items.ensures c.loop-channel-test.false
    c.loop-channel.invariant) is)
    c.close_list.ensures
