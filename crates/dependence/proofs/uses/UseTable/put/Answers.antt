use Rattle.std.proofs.Common.{◌≡◌, ℕ, List, [], get_or, ap, ◌∙◌}
use Rattle.std.proofs.lemmas.Result.{on_ok_weaker, on_err_weaker}
use Rattle.dependence.specs.internal.Tickets.{rows_of}
use Rattle.dependence.proofs.ListLaws.{on-err}
use Rattle.dependence.proofs.TicketLaws.{put-alike, refused-alike, uses-alike}
use Rattle.dependence.proofs.uses.UseTable.put.Goals as goal

pub returns-clause-put : goal.returns-clause-put
returns-clause-put c =
    let same : (x : ℕ) → get_or (rows_of c.make_rows.new.rows.items) x [] ≡ get_or c.args.self.now x [] =
    λ x. c.make_rows.ensures.same x ∙ ap (λ (table : List (List ℕ)). get_or table x []) c.self.view_is in
    on_ok_weaker c.put_use.result
    (λ put. put-alike c.args.self.now (rows_of c.make_rows.new.rows.items) (rows_of c.put_use.new.rows.items) c.args.number c.args.ticket same put)
    c.put_use.ensures.put

pub returns-clause-refused : goal.returns-clause-refused
returns-clause-refused c =
    let same : (x : ℕ) → get_or (rows_of c.make_rows.new.rows.items) x [] ≡ get_or c.args.self.now x [] =
    λ x. c.make_rows.ensures.same x ∙ ap (λ (table : List (List ℕ)). get_or table x []) c.self.view_is in
    on_err_weaker c.put_use.result
    (λ put. refused-alike c.args.self.now (rows_of c.make_rows.new.rows.items) (rows_of c.put_use.new.rows.items) same put)
    c.put_use.ensures.refused

pub returns-in_err-make_rows-clause-refused : goal.returns-in_err-make_rows-clause-refused
returns-in_err-make_rows-clause-refused c =
    on-err c.from_residual.result
    (uses-alike c.args.self.now (rows_of c.make_rows.new.rows.items)
    (λ x. c.make_rows.ensures.same x ∙ ap (λ (table : List (List ℕ)). get_or table x []) c.self.view_is))
