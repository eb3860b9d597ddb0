-- What follows from the definitions.
use Rattle.std.specs.Prelude.{List, ℕ}
use Rattle.syntax.specs.Lists.{In, Every}
use Rattle.types.specs.declared.tree.Procedure.{Procedure}
use Rattle.types.specs.Laws.{Distinct, declared_names}
use Rattle.typed_source.specs.Source.{IsTyped}

-- the names that a procedure declares are distinct, and no `:` stands in one
abbrev pub HasOwnNames : Procedure → Type 0
HasOwnNames p = Distinct (declared_names p) × Every (λ name. ¬ In 58 name) (declared_names p)

-- so are those of each procedure of a typed source
abbrev pub NamesAreOwn : Type 0
NamesAreOwn =
    (source : List ℕ) (procedures : List Procedure) → IsTyped source procedures → Every HasOwnNames procedures
