use Rattle.std.proofs.Common.{ℕ, codes, refl, subst}
use Rattle.serde_json.specs.Data.{boolean, number, unsigned}
use Rattle.dap_messages.specs.Written.{Has}
use Rattle.dap_messages.proofs.public.Held.{has_put, has_stays}
use Rattle.dap_views.specs.Handles.{reference}
use Rattle.dap_threads.proofs.values.scope.Goals as goal

pub returns : goal.returns
returns c = λ small.
    let d = number (unsigned (reference c.args.handle)) in
    c.add_hint.ensures (codes "variablesReference") d refl
    (has_stays c.number.new.self c.flag.new.self (codes "variablesReference") (codes "expensive") d (boolean c.args.is_wide) refl c.flag.ensures
    (subst (λ (n : ℕ). Has c.number.new.self (codes "variablesReference") (number (unsigned n))) (c.reference.ensures small)
    (has_put c.text.new.self c.number.new.self (codes "variablesReference") (number (unsigned c.reference.result)) c.number.ensures)))
