use Rattle.std.proofs.Common.{rules, sym, ◌∙◌}
use Rattle.shell_desk.proofs.DeedLemmas.{numbered-copied, numbered-from}
use Rattle.shell_desk.proofs.bench.Bench.numbered.Goals as goal

pub returns-in-Some : goal.returns-in-Some
returns-in-Some c =
    numbered-copied c.args.self.now.numbered c.args.step c.in-Some.command.now c.some_copied.result c.if-step-eq0.false
    (search rules) c.some_copied.ensures

pub returns-in-None : goal.returns-in-None
returns-in-None c = sym (numbered-from c.args.self.now.numbered c.args.step c.if-step-eq0.false ∙ (search rules))
