use Rattle.file_answers.specs.Used.{used}
use Rattle.command_line.proofs.RunningLemmas.{help-told, told-alone}
use Rattle.command_line.proofs.program.tell_help.Goals as goal

pub returns-clause-told : goal.returns-clause-told
returns-clause-told g c =
    help-told c.args.text.now c.write_out-done.result c.finish.result.told c.finish.result.status
    (used g.O.Write.contents c.args.out.now c.write_out-done.new.writer)
    (used g.E.Write.contents c.args.err.now c.finish.new.err)
    c.requires (c.write_out-done.ensures.bytes, c.write_out-done.ensures.failures) c.finish.ensures.status
    c.finish.ensures.quiet
    (told-alone c.write_out-done.result (used g.E.Write.contents c.args.err.now c.finish.new.err) c.finish.result.told
    c.finish.ensures.told)
