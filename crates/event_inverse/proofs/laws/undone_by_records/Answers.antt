-- The undo in the middle of a list.
use Rattle.event_inverse.proofs.public.FromOpening.{undone-by-records}
use Rattle.event_inverse.proofs.laws.undone_by_records.Goals as goal

pub returns : goal.returns
returns c = undone-by-records
