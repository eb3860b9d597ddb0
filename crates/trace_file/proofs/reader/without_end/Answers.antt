use Rattle.trace_file.proofs.LoadLemmas.{no-header}
use Rattle.trace_file.proofs.reader.without_end.Goals as goal

pub returns-in-None : goal.returns-in-None
returns-in-None c = no-header c.args.text.now c.requires c.in-None.ensures
