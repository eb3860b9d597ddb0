-- Sizes cut above the limits, as they are counted.
-- No reader has to believe it: `proofs/Sizes.antt` ties what is counted so to the size that `whole` of
-- `SourceSize.antt` gives.
use Rattle.std.specs.Prelude.{◌+◌, min}
use Rattle.elaborate.specs.Size.{most_nodes, most_nested}
use Rattle.elaborate.specs.SourceSize.{Cut}

-- each number is cut to one more than its limit
abbrev pub limited : Cut
limited s = record { nodes = min s.nodes (most_nodes + 1); levels = min s.levels (most_nested + 1) }
