use Rattle.std.proofs.Common.{codes, refl}
use Rattle.serde_json.specs.Data.{string}
use Rattle.dap_requests.proofs.public.Saying.{stop_stays}
use Rattle.dap_requests.proofs.said.add_words.Goals as goal

pub returns-then-not-is_empty : goal.returns-then-not-is_empty
returns-then-not-is_empty c = λ why branch h.
    stop_stays c.text.new.self c.text-then-not-is_empty.new.self why branch (codes "text") (string c.args.text.now) refl refl
    c.text-then-not-is_empty.ensures
    (stop_stays c.args.body.now c.text.new.self why branch (codes "description") (string c.args.text.now) refl refl c.text.ensures h)
