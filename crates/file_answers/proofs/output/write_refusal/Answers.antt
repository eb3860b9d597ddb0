use Rattle.std.proofs.Common.{ap, ◌∙◌, Err}
use Rattle.std.proofs.lemmas.Result.{err_from_is_err_and}
use Rattle.file_answers.specs.FaultLine.{fault_line}
use Rattle.file_answers.proofs.TellingLemmas.{tells-then, tells-stops}
use Rattle.file_answers.proofs.output.write_refusal.Goals as goal

pub returns-in_err-write_fault : goal.returns-in_err-write_fault
returns-in_err-write_fault g c =
    let p = err_from_is_err_and c.from_residual.result c.from_residual.ensures.1 in
    tells-stops g.W.Write.contents c.args.out.now c.write_fault.new.out (fault_line c.args.fault) c.args.words.now
    c.in_err-write_fault.field-0.0 c.from_residual.result c.in_err-write_fault.ensures (p.1 ∙ ap Err p.2)

pub returns : goal.returns
returns g c =
    tells-then g.W.Write.contents c.args.out.now c.write_fault.new.out c.write_out.new.writer
    (fault_line c.args.fault) c.args.words.now c.write_out.result c.in_ok-write_fault.ensures
    (c.write_out.ensures.bytes, c.write_out.ensures.failures)
