use Rattle.types.specs.internal.Scopes.{entries, scope_of}
use Rattle.types.proofs.public.JudgedLemmas.{judges-types}
use Rattle.types.proofs.typing.Typing.new.Goals as goal

pub returns : goal.returns
returns c =
    judges-types
    (record { scope = scope_of (record { names = c.declare_types.new.names; signatures = c.new-scope.result.signatures }); found = c.without_procedures.result })
    c.args.types.now (entries c.new-scope.result.names) c.in_ok-right.right
    c.new-scope.ensures.names c.in_ok-right.ensures c.new-scope.ensures.signatures c.without_procedures.ensures
