use Rattle.std.proofs.Common.{inl, inr, refl, subst}
use Rattle.dap_messages.specs.Notes.{IsDone}
use Rattle.dap_messages.specs.declared.answer.Answer.{Answer}
use Rattle.dap_requests.proofs.Lines.{evaluates_line, evaluates_none}
use Rattle.dap_requests.proofs.console.evaluate_typed.Goals as goal

pub returns-in-Some-clause-refused : goal.returns-in-Some-clause-refused
returns-in-Some-clause-refused c = elim c.typed.ensures.refused [
  | inl same ↦ inl same
  | inr done ↦ inr (subst (λ (a : Answer). IsDone a.outcome → IsDone c.typed.new.answer.outcome) c.in-Some.ensures.same done)
]

pub returns-in-Some-clause-does : goal.returns-in-Some-clause-does
returns-in-Some-clause-does c =
    evaluates_line c.args.program.now c.args.request.now c.args.desk.now c.typed.new.desk c.machine.result.now c.in-Some.branch
    c.in-Some.instance c.line_in-line.result.now c.args.answer.now c.frame_in.new.answer c.typed.new.answer c.args.memo.now.seen.items
    c.typed.new.memo.seen.items c.machine.ensures
    c.in-Some.ensures.found c.line_in-line.ensures c.in-Some.ensures.same c.typed.ensures.does

pub returns-in-None-clause-does : goal.returns-in-None-clause-does
returns-in-None-clause-does c =
    evaluates_none c.args.program.now c.args.request.now c.args.desk.now c.args.desk.now c.machine.result.now c.args.answer.now
    c.frame_in.new.answer c.args.memo.now.seen.items c.machine.ensures refl c.in-None.ensures.same c.in-None.ensures.found
