use Rattle.json_text.proofs.public.Growing.{closes}
use Rattle.json_text.proofs.writer.Json.close_list.Goals as goal

pub returns : goal.returns
returns c = closes 93 c.args.self.now c.plain.new.self c.set_first.new.self c.in_ok-plain.ensures c.set_first.ensures
