use Rattle.std.proofs.Common.{◌≡◌, drop}
use Rattle.types.specs.Declarations.{all_ports, behind}
use Rattle.types.specs.internal.Scopes.{entries}
use Rattle.types.specs.internal.Least.{least}
use Rattle.types.proofs.declaration.declare_ports.Given as goal

-- with the declarations that are left, those so far are all
abbrev pub invariant-loop-declaration : goal.invariant-loop-declaration
invariant-loop-declaration l =
    all_ports least (record { names = entries l.names; made = l.ports; right = l.right }) (drop l.declaration-index l.declarations)
    ≡ all_ports least (behind least (entries l.fn.names)) l.declarations
