use Rattle.std.proofs.Common.{codes, map}
use Rattle.std.proofs.lemmas.Result.{on_ok_weaker}
use Rattle.picture_text.specs.DataText.{place_row}
use Rattle.picture_text.proofs.Rows.{all-rows, listed-member}
use Rattle.picture_text.proofs.end.add_places.Goals as goal

pub returns : goal.returns
returns c =
    on_ok_weaker c.close_list.result
    (λ is. listed-member c.args.json.now c.name.new.self c.open_list.new.self c.loop-place.json c.close_list.new.self (codes "places")
    (map place_row c.args.end.now.places.items) c.in_ok-name.ensures c.in_ok-open_list.ensures
    (all-rows place_row c.args.end.now.places.items c.as_slice-place-items.result.now c.loop-place.place-index c.loop-place.json c.open_list.new.self c.as_slice-place-items.ensures.value c.loop-place-test.false
    c.loop-place.invariant) is)
    c.close_list.ensures
