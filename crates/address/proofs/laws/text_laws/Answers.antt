-- Addresses with one text are equal.
use Rattle.address.proofs.public.Finds.{text_of-injective}
use Rattle.address.proofs.laws.text_laws.Goals as goal

pub returns : goal.returns
returns c = text_of-injective
