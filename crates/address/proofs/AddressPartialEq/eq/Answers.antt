-- Addresses are tied in the order exactly where they are equal.
use Rattle.address.proofs.public.Total.{equal-is-tie}
use Rattle.address.proofs.AddressPartialEq.eq.Goals as goal

pub returns : goal.returns
returns c = equal-is-tie c.args.self.now c.args.other.now c.equals.result c.equals.ensures
