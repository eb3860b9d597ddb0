use Rattle.command_line.proofs.program.tell_mistake.Goals as goal

pub returns-clause-told : goal.returns-clause-told
returns-clause-told g c =
    (c.args.text.now, c.write_out.result, c.requires, (c.write_out.ensures.bytes, c.write_out.ensures.failures))
