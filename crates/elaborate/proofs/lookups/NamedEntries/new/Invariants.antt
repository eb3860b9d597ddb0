use Rattle.std.proofs.Common.{◌≡◌, drop, map}
use Rattle.elaborate.specs.internal.NamePositions.{noted_from, positions_of}
use Rattle.elaborate.proofs.lookups.NamedEntries.new.Given as goal

-- the names that are left lead to the positions of all
abbrev pub invariant-loop-position : goal.invariant-loop-position
invariant-loop-position l =
    noted_from l.positions l.position (map (λ x. x.name) (drop l.position l.entries)) ≡ positions_of (map (λ x. x.name) l.entries)
