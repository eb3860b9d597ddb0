use Rattle.std.proofs.Common.{codes, map, refl}
use Rattle.std.proofs.lemmas.Result.{on_ok_weaker}
use Rattle.picture_text.specs.DataText.{race_text}
use Rattle.picture_text.proofs.Rows.{all-rows, listed-member}
use Rattle.picture_text.proofs.steps.add_races.Goals as goal

pub returns : goal.returns
returns c =
    on_ok_weaker c.close_list.result
    (λ is. listed-member c.args.json.now c.name.new.self c.open_list.new.self c.loop-race.json c.close_list.new.self (codes "races")
    (map race_text c.args.races.now) c.in_ok-name.ensures c.in_ok-open_list.ensures
    (all-rows race_text c.args.races.now c.args.races.now c.loop-race.race-index c.loop-race.json c.open_list.new.self refl c.loop-race-test.false
    c.loop-race.invariant) is)
    c.close_list.ensures
