use Rattle.std.proofs.Common.{◌∙◌}
use Rattle.types.specs.Declarations.{port_type}
use Rattle.types.specs.internal.Scopes.{entries}
use Rattle.types.proofs.Turns.{and_one}
use Rattle.types.proofs.declaration.port_types.Goals as goal

pub loop-declaration-preserved : goal.loop-declaration-preserved
loop-declaration-preserved c =
    and_one c.args.declarations.now c.loop-declaration.declaration-index c.declaration-item.result c.loop-declaration-test.true c.declaration-item.is
    (λ d. port_type (entries c.args.names.now) d.kind) c.loop-declaration.outcome c.and-outcome.result c.port_type.result c.port_type.ensures c.and-outcome.ensures
    ∙ c.loop-declaration.invariant
