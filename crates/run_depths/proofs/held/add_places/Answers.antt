use Rattle.std.proofs.Common.{refl}
use Rattle.run_depths.proofs.HeldLaws.{held-both, held-first}
use Rattle.run_depths.proofs.held.add_places.Goals as goal

pub returns-in_ok-push-in-Some : goal.returns-in_ok-push-in-Some
returns-in_ok-push-in-Some c =
    held-both c.args.event.now c.args.behind c.args.places.now.items c.push.new.self.items c.push-in-Some.new.self.items _ _ c.in-Some.place c.in-Some.is refl refl
    refl refl c.in_ok-push.ensures.items c.in_ok-push-in-Some.ensures.items

pub returns-in-None : goal.returns-in-None
returns-in-None c =
    held-first c.args.event.now c.args.behind c.args.places.now.items c.push.new.self.items _ c.in-None.is refl refl c.in_ok-push.ensures.items
