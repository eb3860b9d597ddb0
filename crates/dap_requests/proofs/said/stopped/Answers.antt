use Rattle.std.proofs.Common.{ℕ, List, ◌+◌, true, ap, codes, refl, subst}
use Rattle.serde_json.specs.Data.{boolean, number, string, unsigned}
use Rattle.dap_messages.specs.Written.{Puts}
use Rattle.dap_requests.proofs.public.Saying.{stop_put, stop_stays}
use Rattle.dap_requests.proofs.said.stopped.Goals as goal

pub returns : goal.returns
returns c =
    c.add_words.ensures c.args.why c.args.branch
    (stop_stays c.number.new.self c.flag.new.self c.args.why c.args.branch (codes "allThreadsStopped") (boolean true) refl refl c.flag.ensures
    (stop_put c.new-body.result c.text.new.self c.number.new.self c.args.why c.args.branch
    (subst (λ (name : List ℕ). Puts c.new-body.result (codes "reason") (string name) c.text.new.self) c.reason.ensures c.text.ensures)
    (subst (λ (n : ℕ). Puts c.text.new.self (codes "threadId") (number (unsigned n)) c.number.new.self) (ap (λ n. n + 1) c.from.ensures)
    c.number.ensures)))
