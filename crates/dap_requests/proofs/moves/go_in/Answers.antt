use Rattle.std.proofs.Common.{ℕ, Option, Some, subst}
use Rattle.dap_messages.specs.declared.told.Stop.{Stop}
use Rattle.dap_requests.specs.Forth.{RunsBy, alone, going_of}
use Rattle.dap_requests.specs.Said.{TellsStop}
use Rattle.dap_requests.proofs.Forward.{run_behind}
use Rattle.dap_requests.proofs.public.Saying.{says_nothing}
use Rattle.dap_requests.proofs.moves.go_in.Goals as goal

pub returns-clause-goes : goal.returns-clause-goes
returns-clause-goes c =
    let before = c.args.memo.now.seen.items in
    let after = c.run.new.memo.seen.items in
    run_behind (going_of c.args.program.now (alone c.args.branch c.args.single)) (Some c.args.branch) c.args.desk.now c.run.new.desk before after
    c.args.answer.now c.body.new.self c.run.new.answer
    (says_nothing c.args.answer.now c.body.new.self c.body.ensures.same c.body.ensures.lacks c.body.ensures.done c.body.ensures.effect)
    (subst
    (λ (only : Option ℕ). (stop : Stop) × (there : ℕ) × TellsStop c.body.new.self stop there c.run.new.answer
    × RunsBy (going_of c.args.program.now only) (Some c.args.branch) c.args.desk.now before stop there c.run.new.desk after)
    c.alone-only.ensures c.run.ensures.goes)
