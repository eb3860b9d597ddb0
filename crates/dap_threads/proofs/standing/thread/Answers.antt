use Rattle.std.proofs.Common.{ℕ, ◌+◌, ap, codes, refl, subst}
use Rattle.serde_json.specs.Data.{number, string, unsigned}
use Rattle.dap_messages.specs.Written.{Has}
use Rattle.dap_messages.proofs.public.Held.{has_put, has_stays}
use Rattle.dap_threads.proofs.standing.thread.Goals as goal

pub returns : goal.returns
returns c =
    let d = number (unsigned (c.args.branch + 1)) in
    has_stays c.number.new.self c.text.new.self (codes "id") (codes "name") d (string c.as_str.result.now) refl c.text.ensures
    (subst (λ (n : ℕ). Has c.number.new.self (codes "id") (number (unsigned n))) (ap (λ n. n + 1) c.from.ensures)
    (has_put c.new-thread.result c.number.new.self (codes "id") (number (unsigned (c.from.result + 1))) c.number.ensures))
