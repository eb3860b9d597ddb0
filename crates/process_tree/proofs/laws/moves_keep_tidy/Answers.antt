-- What has begun is tidy, and moves keep it so.
use Rattle.process_tree.proofs.public.Tidy.{started-tidy, moves-keep-tidy}
use Rattle.process_tree.proofs.laws.moves_keep_tidy.Goals as goal

pub returns : goal.returns
returns c = record { started = started-tidy; moves = moves-keep-tidy }
