-- What the environment does on the ports of the root.
use Rattle.std.specs.Prelude.{ℕ, ◌+◌, List, [], ◌∷◌, Option, Some, None}
use Rattle.value.specs.Word.{Word, most_bits, resized}
use Rattle.system.specs.Expression.{word}
use Rattle.elaborate.specs.Fit.{entry_named}
use Rattle.elaborate.specs.declared.stimulus.Given.{Given}
use Rattle.elaborate.specs.declared.stimulus.Given.TheVariants.{Values, Syncs}
use Rattle.elaborate.specs.declared.stimulus.Entry.{Entry}
use Rattle.system.specs.declared.system.Branch.{Branch}
use Rattle.system.specs.declared.system.Branch.TheVariants as branch
use Rattle.types.specs.declared.tree.Port.{Port}
use Rattle.types.specs.declared.tree.PortKind.{PortKind}
use Rattle.types.specs.declared.tree.PortKind.TheVariants as kind

-- numbers as values of a width, which holds them where the stimulus fits
abbrev pub at_width : ℕ → List ℕ → List Word
at_width width [] = []
at_width width (n ∷ ns) = resized (word n most_bits) width ∷ at_width width ns

-- the values that are given
abbrev pub given_values : Given → List ℕ
given_values (Values ns) = ns
given_values (Syncs n) = []

-- the values that an entry gives, none where there is no entry
abbrev pub values_of : Option Entry → List ℕ
values_of None = []
values_of (Some entry) = given_values entry.given

-- how many handshakes are given
abbrev pub given_syncs : Given → ℕ
given_syncs (Values ns) = 0
given_syncs (Syncs n) = n

-- how many handshakes an entry asks for
abbrev pub syncs_of : Option Entry → ℕ
syncs_of None = 0
syncs_of (Some entry) = given_syncs entry.given

-- the branch of a port with this channel
abbrev pub branch_on : ℕ → PortKind → Option Entry → Branch
branch_on channel (kind.Input width) entry = branch.Feed channel width (at_width width (values_of entry))
branch_on channel (kind.Output width) entry = branch.Drain channel
branch_on channel kind.Sync entry = branch.Syncs channel (syncs_of entry)

-- the branch of each port, the first of which has this place: a port's place is the number of its channel
abbrev pub branches_from : List Entry → ℕ → List Port → List Branch
branches_from entries place [] = []
branches_from entries place (port ∷ ports) =
    branch_on place port.kind (entry_named entries port.name) ∷ branches_from entries (place + 1) ports
