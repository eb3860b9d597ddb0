-- What the code holds where definitions have the visible names.
-- No reader has to believe it: the clauses of `check_types` cite `found_description`, which begins with no names.
use Rattle.std.specs.Prelude.{map}
use Rattle.types.specs.Commands.{Scope}
use Rattle.types.specs.Names.{VisibleNames}
use Rattle.types.specs.declared.scope.Names.{Names}
use Rattle.types.specs.declared.scope.Scope as code

-- the names that an index holds
abbrev pub entries : Names → VisibleNames
entries names = map (λ e. (e.0.items, e.1)) names.index.entries

abbrev pub scope_of : code.Scope → Scope
scope_of scope = record { names = entries scope.names; procedures = scope.signatures }
