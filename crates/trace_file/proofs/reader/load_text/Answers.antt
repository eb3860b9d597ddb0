use Rattle.std.proofs.Common.{ap, ◌∙◌, Err}
use Rattle.std.proofs.lemmas.Result.{err_from_is_err_and}
use Rattle.trace_file.proofs.LoadLemmas.{fails, header-refused}
use Rattle.trace_file.proofs.reader.load_text.Goals as goal

pub returns-in_err-version : goal.returns-in_err-version
returns-in_err-version c =
    let p = err_from_is_err_and c.from_residual.result c.from_residual.ensures.1 in
    fails c.from_residual.result c.in_err-version.field-0.0 _ _ (p.1 ∙ ap Err p.2)
    (header-refused c.args.checked c.args.text.now c.in_err-version.field-0.0 c.in_err-version.ensures)

pub returns : goal.returns
returns c = c.load_steps.ensures c.args.text.now c.in_ok-version.ensures
