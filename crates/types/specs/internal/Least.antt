-- Of all faults the least is kept, as the code keeps them.
-- No reader has to believe it: `proofs/LeastDescriptions.antt` ties what is answered so to all faults, which `every`
-- keeps.
use Rattle.types.specs.Findings.{Keeping}
use Rattle.types.specs.Refusal.{lesser}
use Rattle.refusals.specs.declared.types.Fault.{Fault}

-- of two faults the one is kept that is answered
abbrev pub least : Keeping
least = record { Faults = Fault; alone = λ found. found; together = lesser }
