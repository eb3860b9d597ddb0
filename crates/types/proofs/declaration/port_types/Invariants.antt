use Rattle.std.proofs.Common.{◌≡◌, drop, map}
use Rattle.types.specs.Declarations.{port_type, port_types}
use Rattle.types.specs.Findings.{and_all}
use Rattle.types.specs.internal.Scopes.{entries}
use Rattle.types.specs.internal.Least.{least}
use Rattle.types.proofs.declaration.port_types.Given as goal

-- with the declarations that are left, the outcome is that of all
abbrev pub invariant-loop-declaration : goal.invariant-loop-declaration
invariant-loop-declaration l =
    and_all least l.outcome (map (λ d. port_type (entries l.names) d.kind) (drop l.declaration-index l.declarations))
    ≡ port_types least (entries l.names) l.declarations
