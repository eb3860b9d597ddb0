use Rattle.std.proofs.Common.{◌≡◌, false, sym, ◌∙◌, subst}
use Rattle.lexer.specs.Names.{is_name}
use Rattle.elaborate.specs.internal.LineParts.{IsNoGiven}
use Rattle.elaborate.proofs.Entries.{no_entry-name, no_entry-given}
use Rattle.elaborate.proofs.form.is_entry.Goals as goal

pub returns-then-is_name-clause-none : goal.returns-then-is_name-clause-none
returns-then-is_name-clause-none c =
    λ other. no_entry-given c.args.line.now c.length_before.result c.length_before.ensures
    (subst IsNoGiven c.split_at.ensures.back (c.is_given.ensures.none other))

pub returns-else-is_name-clause-none : goal.returns-else-is_name-clause-none
returns-else-is_name-clause-none c =
    λ other. no_entry-name c.args.line.now c.length_before.result c.length_before.ensures
    (subst (λ t. is_name t ≡ false) c.split_at.ensures.front (sym c.is_name.ensures ∙ c.if-is_name.false))
