use Rattle.std.proofs.Common.{sym, ◌∙◌}
use Rattle.dap.specs.Kinds.{is_active}
use Rattle.dap.proofs.Going.{early_goes, early_is, early_waits, not_early}
use Rattle.dap.proofs.dispatch.act_on.Goals as goal

pub change-requires-clause-waits : goal.change-requires-clause-waits
change-requires-clause-waits c =
    not_early c.args.launched.now.program.begun (is_active c.args.request.now) (sym c.is_early.ensures ∙ c.if-is_early.false)

pub returns-then-is_early : goal.returns-then-is_early
returns-then-is_early c =
    let early = sym c.is_early.ensures ∙ c.if-is_early.true in
    early_goes c.args.launched.now c.args.request.now c.args.answer.now c.refuse.new.answer
    (early_waits c.args.launched.now.program.begun (is_active c.args.request.now) early)
    (early_is c.args.launched.now.program.begun (is_active c.args.request.now) early) c.refuse.ensures.0 c.refuse.ensures.1
