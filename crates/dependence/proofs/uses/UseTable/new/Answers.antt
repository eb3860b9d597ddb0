use Rattle.std.proofs.Common.{List, [], Vec, get_or, ℕ, subst}
use Rattle.std.specs.Global.{Global}
use Rattle.syntax.specs.Lists.{In}
use Rattle.dependence.specs.LastEvents.{Uses}
use Rattle.dependence.specs.internal.Tickets.{rows_of}
use Rattle.dependence.proofs.uses.UseTable.new.Goals as goal

pub returns : goal.returns
unfolding Uses
returns c = λ x t u. subst (λ (rows : List (Vec ℕ Global)). In t (get_or (rows_of rows) x [])) c.new.ensures.items u
