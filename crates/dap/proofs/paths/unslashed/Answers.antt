use Rattle.dap.proofs.Folders.{trims}
use Rattle.dap.proofs.paths.unslashed.Goals as goal

pub returns : goal.returns
returns c = trims c.args.folder.now c.trim_end_matches.result.now c.trim_end_matches.ensures.matches
