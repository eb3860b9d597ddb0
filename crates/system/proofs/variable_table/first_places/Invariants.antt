use Rattle.std.proofs.Common.{◌≡◌, drop, map}
use Rattle.system.specs.internal.Hashing.{hash_of, hashes_noted_from, positions_of_hashes}
use Rattle.system.proofs.variable_table.first_places.Given as goal

-- the hashes that are left lead to the positions of all
abbrev pub invariant-loop-position : goal.invariant-loop-position
invariant-loop-position l =
    hashes_noted_from l.positions l.position (map (λ v. hash_of v.name) (drop l.position l.variables))
    ≡ positions_of_hashes (map (λ v. hash_of v.name) l.variables)
