use Rattle.std.proofs.Common.{ℕ, List, [], get_or, Vec, ap, ◌∙◌}
use Rattle.std.specs.Global.{Global}
use Rattle.dependence.specs.internal.Tickets.{rows_of}
use Rattle.dependence.proofs.TicketLaws.{last-of}
use Rattle.dependence.proofs.uses.UseTable.last.Goals as goal

pub returns : goal.returns
returns c =
    last-of c.args.self.now c.args.number c.row_at-tickets.result.now
    (c.row_at-tickets.ensures ∙ ap (λ (rows : List (Vec ℕ Global)). get_or (rows_of rows) c.args.number []) c.as_slice.ensures.value
    ∙ ap (λ (table : List (List ℕ)). get_or table c.args.number []) c.self.view_is)
    c.last_below.result c.args.below c.last_below.ensures
