use Rattle.std.proofs.Common.{sym, ◌||◌, ◌∙◌}
use Rattle.dap.specs.Kinds.{begins, is_active}
use Rattle.dap.proofs.Going.{held_is, held_over, not_held, over_goes}
use Rattle.dap.proofs.dispatch.act.Goals as goal

pub act_on-requires : goal.act_on-requires
act_on-requires c =
    not_held c.args.launched.now.program.ended (is_active c.args.request.now) (begins c.args.request.now.kind)
    (sym c.is_held.ensures ∙ c.if-is_held.false)

pub returns-then-is_held : goal.returns-then-is_held
returns-then-is_held c =
    let held = sym c.is_held.ensures ∙ c.if-is_held.true in
    over_goes c.args.launched.now c.args.request.now c.args.answer.now c.refuse.new.answer
    (held_over c.args.launched.now.program.ended (is_active c.args.request.now || begins c.args.request.now.kind) held)
    (held_is c.args.launched.now.program.ended (is_active c.args.request.now) (begins c.args.request.now.kind) held) c.refuse.ensures.0
    c.refuse.ensures.1
