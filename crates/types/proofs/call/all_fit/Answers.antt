use Rattle.types.specs.internal.Scopes.{entries}
use Rattle.types.proofs.CallLemmas.{all_fit-lengths}
use Rattle.types.proofs.call.all_fit.Goals as goal

pub returns-then-ports-arguments : goal.returns-then-ports-arguments
returns-then-ports-arguments c =
    all_fit-lengths (entries c.args.names.now) c.args.ports.now c.args.arguments.now c.if-ports-arguments.true
