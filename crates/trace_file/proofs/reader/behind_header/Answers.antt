use Rattle.trace_file.proofs.LoadLemmas.{other-line}
use Rattle.trace_file.proofs.reader.behind_header.Goals as goal

pub returns-in-None : goal.returns-in-None
returns-in-None c = other-line c.args.text.now c.in-Some.line.now c.in-Some.steps.now c.in-Some.ensures c.in-None.ensures
