-- Which other use of a variable is marked where two clash.
use Rattle.std.specs.Prelude.{◌≡◌, ◌≢◌, ◌⊎◌, ℕ, List, [], ◌∷◌, ◌++◌, Option, None, Some}
use Rattle.clash_places.specs.Others.{TellsOther}
use Rattle.clash_places.specs.declared.pairs.OtherUse.{OtherUse}
use Rattle.elaborate.specs.Elaboration as elaboration
use Rattle.findings.specs.MarkedPlaces.{marked_at}
use Rattle.findings.specs.declared.finding.Finding.{Finding}
use Rattle.refusals.specs.declared.elaborate.Fault as elaborate
use Rattle.system.specs.declared.system.System.{System}
use Rattle.types.specs.declared.tree.Procedure.{Procedure}
use Rattle.typed_source.specs.Source as typed_source
use Rattle.typed_source.specs.Source.{IsTyped}
use Rattle.typed_source.specs.declared.fault.Fault as typing
use Rattle.typed_source.specs.declared.fault.Fault.TheVariants as not_typed

-- the procedures make no system with an empty stimulus, on which commands do not depend: it is too large
abbrev pub MakeNone : List Procedure → Type 0
MakeNone procedures = (fault : elaborate.Fault) × elaboration.IsRefused procedures [] fault

-- they make this system; or none, and none is told
abbrev pub Makes : List Procedure → Option System → Type 0
Makes procedures None = MakeNone procedures
Makes procedures (Some system) = system ≡ elaboration.system_of procedures []

-- a use at the offset clashes with this one, by the rule on sharing, in the system that the procedures make; or no use
-- there clashes, or they make none, and none is told
abbrev pub TellsUse : List Procedure → ℕ → Option OtherUse → Type 0
TellsUse procedures offset None = MakeNone procedures ⊎ TellsOther (elaboration.system_of procedures []) offset None
TellsUse procedures offset (Some other) = TellsOther (elaboration.system_of procedures []) offset (Some other)

-- the source is no description without a fault
abbrev pub IsFaulty : List ℕ → Type 0
IsFaulty source = (fault : typing.Fault) × (fault ≢ not_typed.Memory) × typed_source.IsRefused source fault

-- the same of the procedures of the source; where it is refused, none is told
abbrev pub TellsClash : List ℕ → ℕ → Option OtherUse → Type 0
TellsClash source offset None =
    IsFaulty source ⊎ ((procedures : List Procedure) × IsTyped source procedures × TellsUse procedures offset None)
TellsClash source offset (Some other) =
    (procedures : List Procedure) × IsTyped source procedures × TellsUse procedures offset (Some other)

-- the place of a use, if one is told
abbrev pub place_of : Option OtherUse → List ℕ
place_of None = []
place_of (Some other) = other.offset ∷ []

-- the finding marks beside it the use that clashes with the one at its place, if one is told, and nothing else
abbrev pub MarksClash : List ℕ → Finding → Type 0
MarksClash source finding =
    (found : Option OtherUse) × TellsClash source finding.start found
    × (marked_at finding.beside.items ≡ place_of found)

-- that use is marked beside what was marked before
abbrev pub AddsClash : List ℕ → Finding → Finding → Type 0
AddsClash source old new =
    (found : Option OtherUse) × TellsClash source old.start found
    × (marked_at new.beside.items ≡ marked_at old.beside.items ++ place_of found)
