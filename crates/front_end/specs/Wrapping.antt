-- What the fault of a pass becomes: want of memory is one fault, whichever pass met it.
use Rattle.typed_source.specs.declared.fault.Fault as source
use Rattle.typed_source.specs.declared.fault.Fault.TheVariants as not_typed
use Rattle.refusals.specs.declared.elaborate.Fault as elaborate
use Rattle.refusals.specs.declared.elaborate.Fault.TheVariants as no_system
use Rattle.refusals.specs.declared.sharing_check.Fault as sharing
use Rattle.refusals.specs.declared.sharing_check.Fault.TheVariants as not_shared
use Rattle.front_end.specs.declared.fault.Fault.{Fault}

-- a fault of the source
abbrev pub of_source : source.Fault → Fault
of_source not_typed.Memory = Fault.Memory
of_source fault = Fault.Source fault

-- a fault of the stimulus or of elaboration
abbrev pub of_elaborate : elaborate.Fault → Fault
of_elaborate no_system.Memory = Fault.Memory
of_elaborate fault = Fault.Elaborate fault

-- a fault of the rule on sharing
abbrev pub of_sharing : sharing.Fault → Fault
of_sharing not_shared.Memory = Fault.Memory
of_sharing fault = Fault.Sharing fault
