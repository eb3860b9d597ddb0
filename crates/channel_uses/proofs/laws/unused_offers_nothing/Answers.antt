use Rattle.channel_uses.proofs.OnChannel.{none-unused}
use Rattle.channel_uses.proofs.laws.unused_offers_nothing.Goals as goal

pub returns : goal.returns
returns c = none-unused
