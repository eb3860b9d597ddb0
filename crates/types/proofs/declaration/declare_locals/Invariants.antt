use Rattle.std.proofs.Common.{◌≡◌, drop}
use Rattle.types.specs.Declarations.{all_locals, behind}
use Rattle.types.specs.internal.Scopes.{entries}
use Rattle.types.specs.internal.Least.{least}
use Rattle.types.proofs.declaration.declare_locals.Given as goal

-- with the declarations that are left, those so far are all
abbrev pub invariant-loop-declaration : goal.invariant-loop-declaration
invariant-loop-declaration l =
    all_locals least (record { names = entries l.names; made = l.locals; right = l.right }) (drop l.declaration-index l.declarations)
    ≡ all_locals least (behind least (entries l.fn.names)) l.declarations
