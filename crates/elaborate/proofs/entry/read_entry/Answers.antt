use Rattle.std.proofs.Common.{◌≡◌, false, sym, ◌∙◌, subst}
use Rattle.lexer.specs.Names.{is_name}
use Rattle.elaborate.specs.internal.LineParts.{IsNoGiven}
use Rattle.elaborate.proofs.Entries.{no_entry-name, no_entry-given}
use Rattle.elaborate.proofs.entry.read_entry.Goals as goal

pub returns-then-not-is_name : goal.returns-then-not-is_name
returns-then-not-is_name c =
    no_entry-name c.args.line.now c.length_before.result c.length_before.ensures
    (subst (λ t. is_name t ≡ false) c.split_at.ensures.front (sym c.is_name.ensures ∙ c.if-not-is_name.true))

pub returns-in_default : goal.returns-in_default
returns-in_default c =
    no_entry-given c.args.line.now c.length_before.result c.length_before.ensures
    (subst IsNoGiven c.split_at.ensures.back (rw c.in_default.is at c.in_ok-given.ensures))
