use Rattle.std.proofs.Common.{◌≡◌, ◌∙◌, sym, false, is_some}
use Rattle.types.specs.Names.{look_up}
use Rattle.types.specs.internal.Scopes.{entries}
use Rattle.types.proofs.NameLemmas.{shown-insert, absent_by}
use Rattle.types.proofs.scope.Names.declare.Goals as goal

pub returns-clause-declared : goal.returns-clause-declared
returns-clause-declared c =
    let absent : is_some (look_up (entries c.args.self.now) c.args.declared.now.name) ≡ false =
    absent_by c.meaning.result _ c.meaning.ensures (sym c.if-is_some.ensures) in
    let named = c.in_ok-key.ensures.items ∙ c.text.ensures in
    rw absent (rw c.in_ok-insert.ensures.entries (rw (← named) (shown-insert (λ k. k.items) c.in_ok-key.key c.args.meaning c.args.self.now.index.entries (rw named absent))))
