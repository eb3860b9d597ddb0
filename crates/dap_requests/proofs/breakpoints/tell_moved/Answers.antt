use Rattle.std.proofs.Common.{Bool, sym, ap, ◌∙◌}
use Rattle.std.specs.Prelude.{not}
use Rattle.dap_requests.proofs.Moving.{moves_none, moves_one}
use Rattle.dap_requests.proofs.breakpoints.tell_moved.Goals as goal

pub returns-then-not-stands_on : goal.returns-then-not-stands_on
returns-then-not-stands_on c =
    moves_one (record c.args.one { at = c.args.placed.now.line }) c.args.moved.now c.push.new.self c.moved_line.result
    (ap (λ (b : Bool). not b) (sym c.stands_on.ensures ∙ c.if-not-stands_on.true)) c.push.ensures

pub returns-else-not-stands_on : goal.returns-else-not-stands_on
returns-else-not-stands_on c =
    moves_none (record c.args.one { at = c.args.placed.now.line }) c.args.moved.now
    (ap (λ (b : Bool). not b) (sym c.stands_on.ensures ∙ c.if-not-stands_on.false))
