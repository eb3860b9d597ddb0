use Rattle.channel_uses.proofs.public.RunStems.{runs-keep-origin}
use Rattle.channel_uses.proofs.Stems.{started-stems, moves-keep-origin}
use Rattle.channel_uses.proofs.laws.moves_keep_origin.Goals as goal

pub returns : goal.returns
returns c = record { started = started-stems; moves = moves-keep-origin; runs = runs-keep-origin }
