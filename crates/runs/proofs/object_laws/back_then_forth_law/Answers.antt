-- Back, then forth.
use Rattle.runs.proofs.public.ObjectLaws.{back-then-forth-law}
use Rattle.runs.proofs.object_laws.back_then_forth_law.Goals as goal

pub returns : goal.returns
returns c = back-then-forth-law
