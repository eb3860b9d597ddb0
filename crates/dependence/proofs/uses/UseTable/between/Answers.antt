use Rattle.std.proofs.Common.{◌≡◌, ℕ, List, [], ◌↔◌, ◌<◌, ◌≤◌, get_or, Vec, ap, subst, ◌∙◌}
use Rattle.std.specs.Global.{Global}
use Rattle.syntax.specs.Lists.{In}
use Rattle.dependence.specs.LastEvents.{Uses}
use Rattle.dependence.specs.internal.Tickets.{rows_of}
use Rattle.dependence.proofs.uses.UseTable.between.Goals as goal

pub returns : goal.returns
unfolding Uses
returns c =
    let is : c.row_at-tickets.result.now ≡ get_or c.args.self.now c.args.number [] =
    c.row_at-tickets.ensures ∙ ap (λ (rows : List (Vec ℕ Global)). get_or (rows_of rows) c.args.number []) c.as_slice.ensures.value
    ∙ ap (λ (table : List (List ℕ)). get_or table c.args.number []) c.self.view_is in
    subst (λ (here : List ℕ). (t : ℕ) → In t c.within.result.now ↔ (In t here × (c.args.from ≤ t) × (t < c.args.below)))
    is c.within.ensures
