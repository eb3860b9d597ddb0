use Rattle.std.proofs.Common.{◌≡◌, ℕ, List, [], ◌∷◌, length, refl, ap, sym, ◌∙◌, arith}
use Rattle.sharing_check.specs.declared.widths.Width.{Width}
use Rattle.sharing_check.specs.internal.Counting.{join, listed, table_of_widths}
use Rattle.sharing_check.proofs.CountTables.{join_none, listed_none}
use Rattle.sharing_check.proofs.widths.Widths.merge.Goals as goal

no_entries : (entries : List (ℕ × Width)) → length entries ≡ 0 → entries ≡ []
no_entries [] none = refl
no_entries (entry ∷ entries) none = absurd (omega (arith, none))

pub returns-then-is_empty-clause-merged : goal.returns-then-is_empty-clause-merged
returns-then-is_empty-clause-merged c =
    let none = no_entries c.args.other.now.by_channel.entries (c.is_empty.ensures.0 c.if-is_empty.true) in
    sym (ap (λ es. join c.args.how (table_of_widths c.args.self.now) (listed es)) none ∙ join_none c.args.how c.args.self.now.by_channel.entries)

pub returns-then-is_empty-clause-emptied : goal.returns-then-is_empty-clause-emptied
returns-then-is_empty-clause-emptied c =
    let none = no_entries c.args.other.now.by_channel.entries (c.is_empty.ensures.0 c.if-is_empty.true) in
    ap listed none ∙ listed_none
