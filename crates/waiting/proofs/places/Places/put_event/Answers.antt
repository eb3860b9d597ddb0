use Rattle.std.proofs.lemmas.Result.{IfOk-weaker}
use Rattle.waiting.proofs.HeldPlaces.{one-more, two-more}
use Rattle.waiting.proofs.places.Places.put_event.Goals as goal

pub returns-in-Some : goal.returns-in-Some
returns-in-Some c =
    IfOk-weaker c.put-in-Some.result _ _ (λ x h. two-more c.args.self.now c.put.new.self c.put-in-Some.new.self c.args.event.now c.in-Some.second c.in-Some.is c.in_ok-put.ensures h)
    c.put-in-Some.ensures

pub returns-in-None : goal.returns-in-None
returns-in-None c = one-more c.args.self.now c.put.new.self c.args.event.now c.in-None.is c.in_ok-put.ensures
