use Rattle.rings.proofs.ring.ring_of_indexes.Goals as goal

pub first_ring-requires : goal.first_ring-requires
first_ring-requires c = record { sizes = c.requires; tables = c.in_ok-tables.ensures }
