use Rattle.std.proofs.Common.{ℕ, Option, refl, inl, inr, ◌∙◌}
use Rattle.dap_messages.specs.declared.told.Stop.{Stop}
use Rattle.dap.specs.Steps.{IsDenied, Stays, thread_of}
use Rattle.dap_requests.proofs.public.Saying.{never_refused, runs_refused}
use Rattle.dap.proofs.Going.{runs_in_thread, thread_found}
use Rattle.dap.proofs.moves.pause.Goals as goal

pub returns-in-Some-clause-goes : goal.returns-in-Some-clause-goes
returns-in-Some-clause-goes c = λ seen.
    runs_in_thread c.args.answer.now c.thread_in.new.answer c.stop.new.answer c.args.desk.now c.args.desk.now seen seen c.machine.result.now
    c.args.request.now c.thread_in.result c.in-Some.branch
    (λ (k : Option ℕ) (stop : Stop) (branch : ℕ). Stays seen seen c.args.desk.now k stop branch c.args.desk.now) c.machine.ensures
    c.thread_in.ensures.thread c.in-Some.is c.in-Some.ensures.outcome
    (inr (Stop.Pause, c.in-Some.branch, c.stop.ensures, (refl, refl, refl, refl)))

pub returns-in-None-clause-goes : goal.returns-in-None-clause-goes
returns-in-None-clause-goes c = λ seen.
    runs_refused c.args.answer.now c.thread_in.new.answer c.args.desk.now c.args.desk.now seen seen
    (λ (stop : Stop) (branch : ℕ). Stays seen seen c.args.desk.now (thread_of c.args.desk.now c.args.request.now) stop branch c.args.desk.now)
    c.in-None.ensures.outcome.0 c.in-None.ensures.outcome.1 refl refl

pub returns-in-Some-clause-denied : goal.returns-in-Some-clause-denied
returns-in-Some-clause-denied c =
    never_refused c.args.answer.now c.thread_in.new.answer c.stop.new.answer Stop.Pause c.in-Some.branch
    (IsDenied c.args.desk.now c.args.request.now) c.in-Some.ensures.outcome c.stop.ensures

pub returns-in-None-clause-denied : goal.returns-in-None-clause-denied
returns-in-None-clause-denied c = λ done refused.
    inl
    (thread_found c.args.desk.now c.machine.result.now c.args.request.now c.thread_in.result c.machine.ensures c.thread_in.ensures.thread
    ∙ c.in-None.is)
