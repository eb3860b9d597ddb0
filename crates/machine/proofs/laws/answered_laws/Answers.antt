use Rattle.runs.proofs.public.ObjectLaws.{stays-over-lists, tickets-grow}
use Rattle.machine.proofs.public.HeadlineLaws.{headline}
use Rattle.machine.proofs.laws.answered_laws.Goals as goal

pub returns : goal.returns
returns c = record { stays = stays-over-lists; grows = tickets-grow; headline = headline }
