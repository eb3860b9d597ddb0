use Rattle.std.proofs.Common.{rules, subst}
use Rattle.shell_desk.specs.AtBench.{AtBench}
use Rattle.shell_desk.specs.Does.{Asked}
use Rattle.shell_desk.specs.internal.Numbering.{made_of}
use Rattle.shell_desk.proofs.DeedLemmas.{take-asked, take-none}
use Rattle.shell_desk.proofs.NumberLemmas.{asked-noted}
use Rattle.shell_desk.proofs.bench.Bench.take.Goals as goal

pub returns-in_default : goal.returns-in_default
returns-in_default g c = take-none c.args.self.now c.args.step c.if-step-eq0.false (search rules)

pub returns : goal.returns
returns g c =
    let before : AtBench = record {
      desk = c.self.inside.desk;
      session = c.self.inside.session;
      numbered = c.self.inside.numbered.items;
      turn = c.self.inside.turn;
      branch = c.self.inside.branch;
      stopped = c.self.inside.stopped;
    } in
    take-asked c.args.self.now c.note.new.self c.args.step c.in-Some.command.now c.answered-reply.result.0 c.if-step-eq0.false (search rules)
    (subst (λ (b : AtBench). Asked b c.in-Some.command.now c.answered-reply.result.0 c.note.new.self) c.self.view_is
    (asked-noted before c.note.new.self c.answered-reply.new.desk c.in-Some.command.now c.answered-reply.result.0
    (made_of c.answered-reply.result.1) c.answered-reply.ensures.answers c.answered-reply.ensures.system
    c.answered-reply.ensures.numbers c.note.ensures.desk c.note.ensures.session c.note.ensures.numbered c.note.ensures.turn
    c.note.ensures.branch c.note.ensures.stopped))
