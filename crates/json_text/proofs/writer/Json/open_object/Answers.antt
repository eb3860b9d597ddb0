use Rattle.json_text.proofs.public.Growing.{opens}
use Rattle.json_text.proofs.writer.Json.open_object.Goals as goal

pub returns : goal.returns
returns c = opens 123 c.args.self.now c.value.new.self c.set_first.new.self c.in_ok-value.ensures c.set_first.ensures
