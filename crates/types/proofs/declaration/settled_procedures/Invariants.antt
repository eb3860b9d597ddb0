use Rattle.std.proofs.Common.{◌≡◌, drop}
use Rattle.types.specs.internal.Judged.{scope_behind}
use Rattle.types.specs.internal.Least.{least}
use Rattle.types.specs.internal.Scopes.{scope_of}
use Rattle.types.specs.Declarations.{with_procedures}
use Rattle.types.proofs.declaration.settled_procedures.Given as goal

-- with the procedures that are left, those so far are all, and so is the scope behind them
abbrev pub invariant-loop-procedure : goal.invariant-loop-procedure
invariant-loop-procedure l =
    (with_procedures least (scope_of l.scope) l.settled (drop l.procedure-index l.procedures)
    ≡ with_procedures least (scope_of l.fn.scope) l.fn.settled l.procedures)
    × (scope_behind (scope_of l.scope) (drop l.procedure-index l.procedures) ≡ scope_behind (scope_of l.fn.scope) l.procedures)
