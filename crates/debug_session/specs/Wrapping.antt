-- What a fault of a layer below becomes: want of memory is one fault, whichever layer met it.
use Rattle.front_end.specs.declared.fault.Fault as front_end
use Rattle.front_end.specs.declared.fault.Fault.TheVariants as not_accepted
use Rattle.trace_file.specs.declared.fault.Fault as trace
use Rattle.trace_file.specs.declared.fault.Fault.TheVariants as not_loaded
use Rattle.debug_session.specs.declared.fault.Fault.{Fault}

-- a refusal of source and stimulus
abbrev pub of_front_end : front_end.Fault → Fault
of_front_end not_accepted.Memory = Fault.Memory
of_front_end fault = Fault.NoSystem fault

-- a fault of a trace
abbrev pub of_trace : trace.Fault → Fault
of_trace not_loaded.Memory = Fault.Memory
of_trace fault = Fault.Trace fault
