use Rattle.std.proofs.Common.{◌≡◌, drop}
use Rattle.types.specs.Declarations.{with_elements}
use Rattle.types.specs.internal.Scopes.{entries}
use Rattle.types.specs.internal.Least.{least}
use Rattle.types.proofs.declaration.declare_elements.Given as goal

-- with the elements that are left, those so far are all
abbrev pub invariant-loop-number : goal.invariant-loop-number
invariant-loop-number l =
    with_elements least l.width l.number (record { names = entries l.names; right = l.right }) (drop l.number l.elements)
    ≡ with_elements least l.width 0 (record { names = entries l.fn.names; right = l.fn.right }) l.elements
