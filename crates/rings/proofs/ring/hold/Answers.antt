use Rattle.std.proofs.Common.{refl}
use Rattle.rings.proofs.Trailing.{set-none, set-row}
use Rattle.rings.proofs.ring.hold.Goals as goal

pub returns-in-Some : goal.returns-in-Some
returns-in-Some c = set-row c.in-Some.row c.args.state c.args.held.now.items _ c.args.row (c.requires c.in-Some.row c.in-Some.is) c.in-Some.is refl

pub returns-in-None : goal.returns-in-None
returns-in-None c = set-none c.args.state c.args.held.now.items c.args.row c.in-None.is
