use Rattle.std.proofs.Common.{refl}
use Rattle.picture.proofs.text_written.Goals as goal

pub returns-in-Ok-clause-written : goal.returns-in-Ok-clause-written
returns-in-Ok-clause-written g c = let written = c.in-Ok.ensures.bytes in (written.0, written.1, written.2)

pub returns-in-Err-clause-written : goal.returns-in-Err-clause-written
returns-in-Err-clause-written g c = let written = c.in-Err.ensures.bytes in (written.0, written.1, (refl, written.2))
