use Rattle.address.proofs.Address.equals.Goals as goal

pub returns : goal.returns
returns c = rw (← c.entries.ensures, ← c.entries-2.ensures) c.are_same.ensures
