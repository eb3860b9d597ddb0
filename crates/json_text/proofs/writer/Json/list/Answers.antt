use Rattle.std.proofs.Common.{map}
use Rattle.std.proofs.lemmas.Result.{on_ok_weaker}
use Rattle.json_text.specs.Values.{item_text}
use Rattle.json_text.proofs.public.Growing.{lists}
use Rattle.json_text.proofs.writer.Json.list.Goals as goal

pub returns : goal.returns
returns c =
    on_ok_weaker c.close_list.result
    (λ is. lists c.args.self.now c.open_list.new.self c.items.new.self c.close_list.new.self (map item_text c.args.items.now)
    c.in_ok-open_list.ensures c.in_ok-items.ensures is)
    c.close_list.ensures
