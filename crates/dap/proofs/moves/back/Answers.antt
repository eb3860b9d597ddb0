use Rattle.std.proofs.Common.{ℕ, Option, refl, inl, inr, ◌∙◌}
use Rattle.dap_messages.specs.declared.told.Stop.{Stop}
use Rattle.dap.specs.Steps.{Backward, IsDenied, thread_of}
use Rattle.dap_requests.proofs.public.Saying.{never_refused, runs_refused}
use Rattle.dap.proofs.Going.{runs_in_thread, thread_found}
use Rattle.dap.proofs.moves.back.Goals as goal

pub returns-in-Some-clause-goes : goal.returns-in-Some-clause-goes
returns-in-Some-clause-goes c =
    runs_in_thread c.args.answer.now c.thread_in.new.answer c.back_in.new.answer c.args.desk.now c.back_in.new.desk c.args.memo.now.seen.items
    c.back_in.new.memo.seen.items c.machine.result.now c.args.request.now c.thread_in.result c.in-Some.branch
    (λ (k : Option ℕ) (stop : Stop) (branch : ℕ). Backward c.args.program.now.excepts c.args.memo.now.seen.items c.back_in.new.memo.seen.items c.args.desk.now k stop branch c.back_in.new.desk)
    c.machine.ensures c.thread_in.ensures.thread c.in-Some.is c.in-Some.ensures.outcome (inr c.back_in.ensures.goes)

pub returns-in-None-clause-goes : goal.returns-in-None-clause-goes
returns-in-None-clause-goes c =
    runs_refused c.args.answer.now c.thread_in.new.answer c.args.desk.now c.args.desk.now c.args.memo.now.seen.items c.args.memo.now.seen.items
    (λ (stop : Stop) (branch : ℕ). Backward c.args.program.now.excepts c.args.memo.now.seen.items c.args.memo.now.seen.items c.args.desk.now (thread_of c.args.desk.now c.args.request.now) stop branch c.args.desk.now)
    c.in-None.ensures.outcome.0 c.in-None.ensures.outcome.1 refl refl

pub returns-in-Some-clause-denied : goal.returns-in-Some-clause-denied
returns-in-Some-clause-denied c =
    never_refused c.args.answer.now c.thread_in.new.answer c.back_in.new.answer c.back_in.ensures.goes.0 c.back_in.ensures.goes.1
    (IsDenied c.args.desk.now c.args.request.now) c.in-Some.ensures.outcome c.back_in.ensures.goes.2

pub returns-in-None-clause-denied : goal.returns-in-None-clause-denied
returns-in-None-clause-denied c = λ done refused.
    inl
    (thread_found c.args.desk.now c.machine.result.now c.args.request.now c.thread_in.result c.machine.ensures c.thread_in.ensures.thread
    ∙ c.in-None.is)
