use Rattle.std.proofs.Common.{ℕ, Bool, refl, subst, ap, codes, ◌∙◌}
use Rattle.serde_json.specs.Data.{boolean, number, unsigned}
use Rattle.dap_messages.specs.Written.{Has}
use Rattle.dap_views.specs.Counted.{shown_line}
use Rattle.dap_requests.proofs.Setting.{has_put, has_stays}
use Rattle.dap_requests.proofs.breakpoints.shown.Goals as goal

pub returns-clause-number_is : goal.returns-clause-number_is
returns-clause-number_is c =
    let d = number (unsigned c.args.asked.id) in
    c.add_reason.ensures (codes "id") d refl
    (has_stays c.flag.new.self c.number-2.new.self (codes "id") (codes "line") d (number (unsigned c.shown_line.result)) refl c.number-2.ensures
    (has_stays c.number.new.self c.flag.new.self (codes "id") (codes "verified") d (boolean c.is_placed.result) refl c.flag.ensures
    (has_put c.new-one.result c.number.new.self (codes "id") d c.number.ensures)))

pub returns-clause-verified : goal.returns-clause-verified
returns-clause-verified c =
    subst (λ (b : Bool). Has c.add_reason.new.one (codes "verified") (boolean b)) c.is_placed.ensures
    (c.add_reason.ensures (codes "verified") (boolean c.is_placed.result) refl
    (has_stays c.flag.new.self c.number-2.new.self (codes "verified") (codes "line") (boolean c.is_placed.result)
    (number (unsigned c.shown_line.result)) refl c.number-2.ensures
    (has_put c.number.new.self c.flag.new.self (codes "verified") (boolean c.is_placed.result) c.flag.ensures)))

pub returns-clause-line_is : goal.returns-clause-line_is
returns-clause-line_is c =
    let line = c.shown_line.ensures ∙ ap (λ (n : ℕ). shown_line c.args.program.now n) c.unwrap_or.ensures in
    subst (λ (n : ℕ). Has c.add_reason.new.one (codes "line") (number (unsigned n))) line
    (c.add_reason.ensures (codes "line") (number (unsigned c.shown_line.result)) refl
    (has_put c.flag.new.self c.number-2.new.self (codes "line") (number (unsigned c.shown_line.result)) c.number-2.ensures))
