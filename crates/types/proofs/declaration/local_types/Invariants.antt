use Rattle.std.proofs.Common.{◌≡◌, drop, map}
use Rattle.types.specs.Declarations.{local_type, local_types}
use Rattle.types.specs.Findings.{and_all}
use Rattle.types.specs.internal.Scopes.{entries}
use Rattle.types.specs.internal.Least.{least}
use Rattle.types.proofs.declaration.local_types.Given as goal

-- with the declarations that are left, the outcome is that of all
abbrev pub invariant-loop-declaration : goal.invariant-loop-declaration
invariant-loop-declaration l =
    and_all least l.outcome (map (λ d. local_type (entries l.names) d.kind) (drop l.declaration-index l.declarations))
    ≡ local_types least (entries l.names) l.declarations
