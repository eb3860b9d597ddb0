use Rattle.std.proofs.Common.{codes, map, refl}
use Rattle.std.proofs.lemmas.Result.{on_ok_weaker}
use Rattle.picture_text.specs.DataText.{instance_text}
use Rattle.picture_text.proofs.Rows.{all-rows, listed-member}
use Rattle.picture_text.proofs.ground.add_instances.Goals as goal

pub returns : goal.returns
returns c =
    on_ok_weaker c.close_list.result
    (λ is. listed-member c.args.json.now c.name.new.self c.open_list.new.self c.loop-instance.json c.close_list.new.self (codes "instances")
    (map instance_text c.args.instances.now) c.in_ok-name.ensures c.in_ok-open_list.ensures
    (all-rows instance_text c.args.instances.now c.args.instances.now c.loop-instance.instance-index c.loop-instance.json c.open_list.new.self refl c.loop-instance-test.false
    c.loop-instance.invariant) is)
    c.close_list.ensures
