use Rattle.command_words.specs.Words as spec
use Rattle.command_words.proofs.commands.balsadbg.Goals as goal

pub returns : goal.returns
returns c = c.with_command.ensures spec.asking spec.dap c.asking.ensures c.dap.ensures
