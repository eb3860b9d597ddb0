use Rattle.std.proofs.Common.{refl, subst, sym}
use Rattle.locked_execution.specs.declared.command.Reply.{Reply}
use Rattle.dap_requests.specs.Forth.{SeenAfter}
use Rattle.dap_requests.proofs.Forward.{seen_after}
use Rattle.dap_requests.proofs.moves.forget_seen.Goals as goal

pub returns-in-Refused : goal.returns-in-Refused
returns-in-Refused c =
    subst (λ (r : Reply). SeenAfter r c.args.memo.now.seen.items c.args.memo.now.seen.items) (sym c.in-Refused.is) refl

pub returns-in_default : goal.returns-in_default
returns-in_default c =
    seen_after c.args.reply.now c.args.memo.now.seen.items c.clear.new.self.items c.in_default.not-Refused c.clear.ensures.items
