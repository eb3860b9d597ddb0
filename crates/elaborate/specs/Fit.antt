-- Which lines of a stimulus fit the ports of the root.
use Rattle.std.specs.Prelude.{ℕ, ◌+◌, ◌^◌, nat_lt, nat_eq, Bool, true, false, ◌&&◌, not, is_some, if◌then◌else◌, List, [], ◌∷◌, ◌++◌, Option, Some, None}
use Rattle.std.specs.Cmp.Lexicographic.{pointwise}
use Rattle.syntax.specs.Texts.{Text}
use Rattle.elaborate.specs.declared.stimulus.Given.{Given}
use Rattle.elaborate.specs.declared.stimulus.Given.TheVariants.{Values, Syncs}
use Rattle.elaborate.specs.declared.stimulus.Entry.{Entry}
use Rattle.types.specs.declared.tree.Port.{Port}
use Rattle.types.specs.declared.tree.PortKind.{PortKind}
use Rattle.types.specs.declared.tree.PortKind.TheVariants as kind

-- the kind of the port of this name
abbrev pub kind_named : List Port → Text → Option PortKind
kind_named [] name = None
kind_named (port ∷ ports) name = if pointwise nat_eq port.name name then Some port.kind else kind_named ports name

-- the first entry for the port of this name
abbrev pub entry_named : List Entry → Text → Option Entry
entry_named [] name = None
entry_named (entry ∷ entries) name = if pointwise nat_eq entry.name name then Some entry else entry_named entries name

-- each value is below two to the power of the width
abbrev pub all_fit : List ℕ → ℕ → Bool
all_fit [] width = true
all_fit (value ∷ values) width = if nat_lt value (2 ^ width) then all_fit values width else false

-- an input port takes values, and a sync port a number of handshakes
abbrev pub kind_takes : PortKind → Given → Bool
kind_takes (kind.Input width) (Values values) = all_fit values width
kind_takes (kind.Input width) (Syncs count) = false
kind_takes (kind.Output width) given = false
kind_takes kind.Sync (Values values) = false
kind_takes kind.Sync (Syncs count) = true

-- whether a port of this kind, if there is one, takes what is given
abbrev pub port_takes : Option PortKind → Given → Bool
port_takes None given = false
port_takes (Some kind) given = kind_takes kind given

-- the entry names a port that takes what it gives, and no entry before is for that port
abbrev pub entry_fits : List Port → List Entry → Entry → Bool
entry_fits ports before entry =
    port_takes (kind_named ports entry.name) entry.given && not (is_some (entry_named before entry.name))

-- the line of the first entry that does not fit, behind the entries before
abbrev pub first_misfit : List Port → List Entry → List Entry → Option ℕ
first_misfit ports before [] = None
first_misfit ports before (entry ∷ rest) =
    if entry_fits ports before entry then first_misfit ports (before ++ entry ∷ []) rest else Some entry.line
