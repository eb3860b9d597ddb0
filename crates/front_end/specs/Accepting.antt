-- What it is for a source and a stimulus to be accepted, and to be refused.
use Rattle.std.specs.Prelude.{◌≡◌, ◌≢◌, ◌⊎◌, ℕ, List}
use Rattle.elaborate.specs.Elaboration as elaboration
use Rattle.syntax.specs.Texts.{lines}
use Rattle.elaborate.specs.StimulusText.{AreEntries, FirstOther}
use Rattle.refusals.specs.declared.elaborate.Fault as elaborate
use Rattle.refusals.specs.declared.elaborate.Fault.TheVariants as no_system
use Rattle.elaborate.specs.declared.stimulus.Entry.{Entry}
use Rattle.system.specs.declared.system.System.{System}
use Rattle.sharing_check.specs.Refusal as sharing
use Rattle.refusals.specs.declared.sharing_check.Fault.TheVariants as not_shared
use Rattle.types.specs.declared.tree.Procedure.{Procedure}
use Rattle.typed_source.specs.Source as typed_source
use Rattle.typed_source.specs.Source.{IsTyped}
use Rattle.typed_source.specs.declared.fault.Fault.TheVariants as not_typed
use Rattle.front_end.specs.declared.fault.Fault.{Fault}

-- the procedures and the stimulus make this system
abbrev pub MakesOne : List Procedure → List ℕ → System → Type 0
MakesOne procedures stimulus system =
    (entries : List Entry) × AreEntries 1 (lines stimulus) entries
    × elaboration.IsAccepted procedures entries × (system ≡ elaboration.system_of procedures entries)

-- source and stimulus make this system
abbrev pub Makes : List ℕ → List ℕ → System → Type 0
Makes source stimulus system =
    (procedures : List Procedure) × IsTyped source procedures × MakesOne procedures stimulus system

-- source and stimulus are accepted: they make this system, and it keeps the rule on sharing
abbrev pub AcceptedAs : List ℕ → List ℕ → System → Type 0
AcceptedAs source stimulus system = Makes source stimulus system × sharing.Accepts system

-- the procedures and the stimulus make no system, for this reason: a line of another form, or else what does not fit
abbrev pub MakesNone : List Procedure → List ℕ → elaborate.Fault → Type 0
MakesNone procedures stimulus fault =
    ((line : ℕ) × (fault ≡ no_system.BadStimulus line) × FirstOther 1 (lines stimulus) line)
    ⊎ ((entries : List Entry) × AreEntries 1 (lines stimulus) entries × elaboration.IsRefused procedures entries fault)

-- the first pass that refuses source and stimulus refuses them for this reason; want of memory is `Memory`, whichever
-- pass met it
abbrev pub IsRefused : List ℕ → List ℕ → Fault → Type 0
IsRefused source stimulus Fault.Memory = Unit {0}
IsRefused source stimulus (Fault.Source fault) = (fault ≢ not_typed.Memory) × typed_source.IsRefused source fault
IsRefused source stimulus (Fault.Elaborate fault) =
    (procedures : List Procedure) × IsTyped source procedures × MakesNone procedures stimulus fault
IsRefused source stimulus (Fault.Sharing fault) =
    (fault ≢ not_shared.Memory) × ((system : System) × Makes source stimulus system × sharing.Refuses system fault)
