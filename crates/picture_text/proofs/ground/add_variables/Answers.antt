use Rattle.std.proofs.Common.{codes, map}
use Rattle.std.proofs.lemmas.Result.{on_ok_weaker}
use Rattle.picture_text.specs.DataText.{variable_text}
use Rattle.picture_text.proofs.Rows.{all-rows, listed-member}
use Rattle.picture_text.proofs.ground.add_variables.Goals as goal

pub returns : goal.returns
returns c =
    on_ok_weaker c.close_list.result
    (λ is. listed-member c.args.json.now c.name.new.self c.open_list.new.self c.loop-variable.json c.close_list.new.self (codes "variables")
    (map variable_text c.args.system.now.variables) c.in_ok-name.ensures c.in_ok-open_list.ensures
    (all-rows variable_text c.args.system.now.variables c.as_slice-variable-items.result.now c.loop-variable.variable-index c.loop-variable.json c.open_list.new.self c.as_slice-variable-items.ensures c.loop-variable-test.false
    c.loop-variable.invariant) is)
    c.close_list.ensures
