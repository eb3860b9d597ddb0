use Rattle.std.proofs.Common.{rules, ◌∙◌, ap, map}
use Rattle.types.specs.internal.Least.{least}
use Rattle.types.specs.internal.Scopes.{entries, scope_of}
use Rattle.types.specs.Findings.{and}
use Rattle.types.proofs.DeclarationLemmas.{procedure_is, visible_after}
use Rattle.types.proofs.declaration.settled_procedure.Goals as goal

pub returns-clause-made : goal.returns-clause-made
returns-clause-made c =
    procedure_is (scope_of c.args.scope.now) c.args.procedure.now
    (entries c.declare_ports.new.names) c.in_ok-ports.ports c.in_ok-ports.new_ports (rw (← c.as_slice.ensures) c.in_ok-ports.ensures)
    (entries c.declare_locals.new.names) c.in_ok-locals.locals c.in_ok-locals.new_locals (rw (← c.as_slice-2.ensures) c.in_ok-locals.ensures)
    c.and-types.result c.in_ok-body.body c.in_ok-named.named c.and-right.result c.in_ok-name.name c.whole.result
    (entries c.keep_first.new.self) c.len-visible.result c.len-visible.ensures c.keep_first.ensures
    (rw (← c.as_slice-3.ensures, ← c.as_slice-4.ensures, ← c.port_types.ensures, ← c.local_types.ensures) c.and-types.ensures)
    c.in_ok-body.ensures c.in_ok-named.ensures.made
    (c.and-right.ensures ∙ ap (λ x. and least c.in_ok-named.named x) (c.and-2.ensures ∙ ap (λ x. and least x c.and-types.result) c.and.ensures))
    (search rules) c.whole.ensures

pub returns-clause-visible : goal.returns-clause-visible
returns-clause-visible c =
    visible_after (scope_of c.args.scope.now) c.args.procedure.now
    (entries c.declare_ports.new.names) c.in_ok-ports.ports c.in_ok-ports.new_ports (rw (← c.as_slice.ensures) c.in_ok-ports.ensures)
    (entries c.declare_locals.new.names) c.in_ok-locals.locals c.in_ok-locals.new_locals (rw (← c.as_slice-2.ensures) c.in_ok-locals.ensures)
    (entries c.declare_name.new.scope.names) c.declare_name.new.scope.signatures (entries c.keep_first.new.self) c.len-visible.result c.in_ok-signature.signature
    c.len-visible.ensures c.keep_first.ensures (c.in_ok-signature.ensures ∙ ap (map (λ q. q.kind)) c.as_slice-5.ensures)
    c.in_ok-named.ensures.names c.in_ok-named.ensures.signatures
