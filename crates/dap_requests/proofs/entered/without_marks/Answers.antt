use Rattle.dap_requests.proofs.Trimming.{unmarked_is}
use Rattle.dap_requests.proofs.entered.without_marks.Goals as goal

pub returns : goal.returns
returns c = unmarked_is c.args.text.now c.trim_start_matches.result.now c.trim_start_matches.ensures.matches
