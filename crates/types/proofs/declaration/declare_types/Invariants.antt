use Rattle.std.proofs.Common.{◌≡◌, drop, Ok}
use Rattle.types.specs.Declarations.{with_types}
use Rattle.types.specs.internal.Scopes.{entries}
use Rattle.types.specs.internal.Least.{least}
use Rattle.types.proofs.declaration.declare_types.Given as goal

-- with the types that are left, those so far are all
abbrev pub invariant-loop-declaration : goal.invariant-loop-declaration
invariant-loop-declaration l =
    with_types least (record { names = entries l.names; right = l.right }) (drop l.declaration-index l.types)
    ≡ with_types least (record { names = entries l.fn.names; right = Ok tt }) l.types
