use Rattle.std.proofs.Common.{map, refl}
use Rattle.std.proofs.lemmas.Result.{on_ok_weaker}
use Rattle.std.specs.Fmt.{decimal}
use Rattle.picture_text.proofs.Rows.{all-rows, listed}
use Rattle.picture_text.proofs.steps.add_indexes.Goals as goal

pub returns : goal.returns
returns c =
    on_ok_weaker c.close_list.result
    (λ is. listed c.args.json.now c.open_list.new.self c.loop-index.json c.close_list.new.self (map decimal c.args.indexes.now) c.in_ok-open_list.ensures
    (all-rows decimal c.args.indexes.now c.args.indexes.now c.loop-index.index-index c.loop-index.json c.open_list.new.self refl c.loop-index-test.false
    c.loop-index.invariant) is)
    c.close_list.ensures
