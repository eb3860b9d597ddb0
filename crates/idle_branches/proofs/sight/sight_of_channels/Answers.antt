use Rattle.idle_branches.proofs.SightLemmas.{opens-act}
use Rattle.idle_branches.proofs.sight.sight_of_channels.Goals as goal

pub returns-else-channels-lt2 : goal.returns-else-channels-lt2
returns-else-channels-lt2 c cs s env = opens-act 0 c.args.channels.now
