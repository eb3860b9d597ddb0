use Rattle.std.proofs.Common.{◌≡◌, ◌↔◌, ℕ, List, subst}
use Rattle.dependence.specs.LastEvents.{Uses}
use Rattle.dependence.specs.internal.Tickets.{rows_of}
use Rattle.dependence.proofs.uses.UseTable.remove.Goals as goal

pub returns : goal.returns
returns c =
    subst (λ (table : List (List ℕ)). (x t : ℕ) → Uses (rows_of c.remove_use.new.rows.items) x t ↔ (Uses table x t × (((x ≡ c.args.number) × (t ≡ c.args.ticket)) → ⊥)))
    c.self.view_is c.remove_use.ensures.removed
