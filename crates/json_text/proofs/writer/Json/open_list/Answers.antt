use Rattle.json_text.proofs.public.Growing.{opens}
use Rattle.json_text.proofs.writer.Json.open_list.Goals as goal

pub returns : goal.returns
returns c = opens 91 c.args.self.now c.value.new.self c.set_first.new.self c.in_ok-value.ensures c.set_first.ensures
