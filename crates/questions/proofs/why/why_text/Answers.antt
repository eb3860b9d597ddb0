use Rattle.std.proofs.Common.{subst}
use Rattle.machine.specs.AtMachine.{AtMachine}
use Rattle.trace_file.specs.declared.fault.Fault.TheVariants.{Memory}
use Rattle.questions.specs.Asking.{AnswersWhy}
use Rattle.questions.proofs.public.Handing.{refused}
use Rattle.questions.proofs.WhyLemmas.{answers, tells}
use Rattle.questions.proofs.why.why_text.Goals as goal

pub returns-in_err-machine-clause-answered : goal.returns-in_err-machine-clause-answered
returns-in_err-machine-clause-answered c =
    refused c.from_residual.result c.in_err-machine.field-0.0 _ _ c.in_err-machine.ensures c.from_residual.ensures.1

pub returns-in_err-reason-clause-answered : goal.returns-in_err-reason-clause-answered
returns-in_err-reason-clause-answered c =
    refused c.from_residual-in_err-reason.result Memory _ _ tt c.from_residual-in_err-reason.ensures.1

pub returns-in_err-answer-clause-answered : goal.returns-in_err-answer-clause-answered
returns-in_err-answer-clause-answered c =
    refused c.from_residual-in_err-answer.result Memory _ _ tt c.from_residual-in_err-answer.ensures.1

pub returns-clause-answered : goal.returns-clause-answered
returns-clause-answered c =
    let loaded = c.in_ok-machine.ensures in (
      loaded.0,
      loaded.1,
      subst (λ (m : AtMachine). AnswersWhy m.checked m.live c.args.subject.now c.in_ok-answer.field-0) loaded.2
          (answers c.in_ok-machine.machine.checked c.in_ok-machine.machine.live c.args.subject.now c.args.all
          c.in_ok-reason.reason c.in_ok-answer.field-0 c.in_ok-reason.ensures
          (tells c.in_ok-machine.machine c.args.subject.now c.in_ok-reason.reason c.in_ok-answer.field-0
          c.in_ok-answer.ensures)),
    )

pub returns-clause-text : goal.returns-clause-text
returns-clause-text c =
    (c.in_ok-machine.machine, c.in_ok-reason.reason, c.in_ok-machine.ensures, c.in_ok-reason.ensures, c.in_ok-answer.ensures)
