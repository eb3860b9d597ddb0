use Rattle.dap_requests.proofs.Trimming.{line_is}
use Rattle.dap_requests.proofs.entered.line_of_text.Goals as goal

pub returns : goal.returns
returns c =
    line_is c.args.text.now c.trim_ascii-rest.result.now c.without_marks.result.now c.trim_ascii.result.now c.trim_ascii-rest.ensures.value
    c.without_marks.ensures c.trim_ascii.ensures.value
