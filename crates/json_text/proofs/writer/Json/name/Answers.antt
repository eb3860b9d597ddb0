use Rattle.json_text.proofs.public.Growing.{names}
use Rattle.json_text.proofs.writer.Json.name.Goals as goal

pub returns : goal.returns
returns c =
    names c.args.self.now c.text.new.self c.plain.new.self c.set_first.new.self c.as_bytes.result.now c.args.name.now
    c.as_bytes.ensures.value c.in_ok-text.ensures c.in_ok-plain.ensures c.set_first.ensures
