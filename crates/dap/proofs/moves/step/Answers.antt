use Rattle.std.proofs.Common.{ℕ, Option, refl, subst, sym, inl, inr, ◌∙◌}
use Rattle.dap_messages.specs.Notes.{IsDone}
use Rattle.dap_messages.specs.declared.answer.Answer.{Answer}
use Rattle.dap_messages.specs.declared.told.Stop.{Stop}
use Rattle.dap.specs.Steps.{Forward, thread_of}
use Rattle.dap_requests.proofs.public.Saying.{runs_refused}
use Rattle.dap.proofs.Going.{runs_in_thread, thread_found}
use Rattle.dap.proofs.moves.step.Goals as goal

pub returns-in-Some-clause-goes : goal.returns-in-Some-clause-goes
returns-in-Some-clause-goes c =
    runs_in_thread c.args.answer.now c.thread_in.new.answer c.step_in.new.answer c.args.desk.now c.step_in.new.desk c.args.memo.now.seen.items
    c.step_in.new.memo.seen.items c.machine.result.now c.args.request.now c.thread_in.result c.in-Some.branch
    (λ (k : Option ℕ) (stop : Stop) (branch : ℕ). Forward c.args.program.now.excepts c.args.memo.now.seen.items c.step_in.new.memo.seen.items c.args.desk.now c.args.request.now k stop branch c.step_in.new.desk)
    c.machine.ensures c.thread_in.ensures.thread c.in-Some.is c.in-Some.ensures.outcome c.step_in.ensures.goes

pub returns-in-None-clause-goes : goal.returns-in-None-clause-goes
returns-in-None-clause-goes c =
    runs_refused c.args.answer.now c.thread_in.new.answer c.args.desk.now c.args.desk.now c.args.memo.now.seen.items c.args.memo.now.seen.items
    (λ (stop : Stop) (branch : ℕ). Forward c.args.program.now.excepts c.args.memo.now.seen.items c.args.memo.now.seen.items c.args.desk.now c.args.request.now (thread_of c.args.desk.now c.args.request.now) stop branch c.args.desk.now)
    c.in-None.ensures.outcome.0 c.in-None.ensures.outcome.1 refl refl

pub returns-in-Some-clause-denied : goal.returns-in-Some-clause-denied
returns-in-Some-clause-denied c = λ done refused.
    inr (c.step_in.ensures.denied (subst (λ (x : Answer). IsDone x.outcome) (sym c.in-Some.ensures.outcome) done) refused)

pub returns-in-None-clause-denied : goal.returns-in-None-clause-denied
returns-in-None-clause-denied c = λ done refused.
    inl
    (thread_found c.args.desk.now c.machine.result.now c.args.request.now c.thread_in.result c.machine.ensures c.thread_in.ensures.thread
    ∙ c.in-None.is)
