use Rattle.std.proofs.Common.{map, refl}
use Rattle.std.proofs.lemmas.Result.{on_ok_weaker}
use Rattle.picture_text.specs.DataText.{wanted_text}
use Rattle.picture_text.proofs.Rows.{all-rows, listed}
use Rattle.picture_text.proofs.end.add_wanted.Goals as goal

pub returns : goal.returns
returns c =
    on_ok_weaker c.close_list.result
    (λ is. listed c.args.json.now c.open_list.new.self c.loop-one.json c.close_list.new.self (map wanted_text c.args.wanted.now) c.in_ok-open_list.ensures
    (all-rows wanted_text c.args.wanted.now c.args.wanted.now c.loop-one.one-index c.loop-one.json c.open_list.new.self refl c.loop-one-test.false
    c.loop-one.invariant) is)
    c.close_list.ensures
