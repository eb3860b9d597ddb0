use Rattle.dap_threads.specs.Variables.{is_channel_of}
use Rattle.dap_threads.proofs.Unfolding.{named_one, named_same}
use Rattle.dap_threads.proofs.values.add_channel.Goals as goal

pub returns-in-Some : goal.returns-in-Some
returns-in-Some c =
    named_one c.args.list.now c.push.new.self c.channel.result c.args.named.now (is_channel_of c.args.instance c.args.named.now) c.in-Some.ensures
    c.channel.ensures.name_is c.channel.ensures.leaf c.push.ensures

pub returns-in-None : goal.returns-in-None
returns-in-None c = named_same c.args.list.now c.args.named.now (is_channel_of c.args.instance c.args.named.now) c.in-None.ensures
