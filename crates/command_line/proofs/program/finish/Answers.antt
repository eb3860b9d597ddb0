use Rattle.std.proofs.Common.{refl, []}
use Rattle.devices.proofs.public.KnownLemmas.{Appends-none}
use Rattle.command_line.proofs.program.finish.Goals as goal

pub returns-in-Ok-clause-told : goal.returns-in-Ok-clause-told
returns-in-Ok-clause-told g c =
    rw c.in-Ok.is (([], Appends-none (g.E.Write.contents c.args.err.now.device), refl), refl)
