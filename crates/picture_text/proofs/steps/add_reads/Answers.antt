use Rattle.std.proofs.Common.{map}
use Rattle.std.proofs.lemmas.Result.{on_ok_weaker}
use Rattle.std.specs.Fmt.{decimal}
use Rattle.picture_text.proofs.Rows.{all-rows, listed}
use Rattle.picture_text.proofs.steps.add_reads.Goals as goal

pub returns : goal.returns
returns c =
    on_ok_weaker c.close_list.result
    (λ is. listed c.args.json.now c.open_list.new.self c.loop-variable.json c.close_list.new.self (map decimal c.args.event.now.read) c.in_ok-open_list.ensures
    (all-rows decimal c.args.event.now.read c.as_slice-variable-items.result.now c.loop-variable.variable-index c.loop-variable.json c.open_list.new.self c.as_slice-variable-items.ensures c.loop-variable-test.false
    c.loop-variable.invariant) is)
    c.close_list.ensures
