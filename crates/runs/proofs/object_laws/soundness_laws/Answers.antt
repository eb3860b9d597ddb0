-- Soundness at the beginning and after commands.
use Rattle.runs.proofs.public.ObjectLaws.{begins-sound, stays, stays-over-lists, answered-joins}
use Rattle.runs.proofs.object_laws.soundness_laws.Goals as goal

pub returns : goal.returns
returns c = record { begins = begins-sound; stays = stays; lists = stays-over-lists; joins = answered-joins }
