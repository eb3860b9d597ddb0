use Rattle.std.proofs.lemmas.Result.{on_ok_weaker}
use Rattle.json_text.proofs.public.Growing.{values}
use Rattle.json_text.proofs.writer.Json.value.Goals as goal

pub returns : goal.returns
returns c =
    on_ok_weaker c.plain.result
    (λ is. values c.args.self.now c.separate.new.self c.plain.new.self c.args.text.now c.in_ok-separate.ensures is)
    c.plain.ensures
