use Rattle.rings.proofs.deadlock.deadlocked_among.Goals as goal

pub firm_among-requires : goal.firm_among-requires
firm_among-requires c = record { partners = c.requires.partners; tables = c.in_ok-tables.ensures }

pub returns : goal.returns
returns c = c.firm_among.ensures
