-- How a session with an editor ends.
use Rattle.std.specs.Prelude.{◌≡◌, ◌⊎◌}
use Rattle.debug_session.specs.declared.fault.Fault.{Fault}
use Rattle.debug_session.specs.declared.fault.Fault.TheVariants.{Memory, ReadFailed, WriteFailed}

-- the fault is one of the streams, or want of memory: what is wrong with a description is told to the editor
abbrev pub IsOfStreams : Fault → Type 0
IsOfStreams fault = (fault ≡ Memory) ⊎ (fault ≡ ReadFailed) ⊎ (fault ≡ WriteFailed)
