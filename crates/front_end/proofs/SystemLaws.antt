-- The names of an accepted system, and its nodes.
use Rattle.std.proofs.Common.{List, [], ◌∷◌, sym, subst}
use Rattle.elaborate.specs.Laws as elaborate
use Rattle.elaborate.specs.Size.{IsSmall, system_size}
use Rattle.syntax.specs.Lists.{Every}
use Rattle.syntax.specs.Texts.{Text}
use Rattle.types.specs.declared.tree.Procedure.{Procedure}
use Rattle.typed_source.specs.Laws.{HasOwnNames, NamesAreOwn}
use Rattle.types.specs.Laws as types
use Rattle.front_end.specs.Laws.{NamesAreDistinct, SystemIsSmall}

-- both crates say the same of names
distinct : (names : List Text) → types.Distinct names → elaborate.Distinct names
distinct [] d = tt
distinct (name ∷ names) d = (d.0, distinct names d.1)

own_names : (ps : List Procedure) → Every HasOwnNames ps → Every elaborate.HasOwnNames ps
own_names [] own = tt
own_names (p ∷ ps) own = ((distinct (types.declared_names p) own.0.0, own.0.1), own_names ps own.1)

pub names_distinct : NamesAreOwn → elaborate.NamesAreDistinct → NamesAreDistinct
names_distinct own law source stimulus system (ps, typed, (entries, are, accepted, is)) =
    subst (λ s. elaborate.Distinct (elaborate.names_of_system s)) (sym is) (law ps entries (own_names ps (own source ps typed)) accepted)

pub small : SystemIsSmall
small source stimulus system (ps, typed, (entries, are, accepted, is)) = subst (λ s. IsSmall (system_size s)) (sym is) accepted.1
