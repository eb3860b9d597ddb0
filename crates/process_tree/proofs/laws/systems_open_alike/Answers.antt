-- The tree of a system is to do what the system is to do.
use Rattle.process_tree.proofs.public.Translated.{commands-agree, systems-open-alike}
use Rattle.process_tree.proofs.laws.systems_open_alike.Goals as goal

pub returns : goal.returns
returns c = record { commands = commands-agree; opening = systems-open-alike }
