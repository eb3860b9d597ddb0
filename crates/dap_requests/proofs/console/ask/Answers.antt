use Rattle.std.proofs.Common.{◌∙◌, refl, sym, true, false}
use Rattle.dap_messages.specs.declared.told.Stop.{Stop}
use Rattle.dap_requests.proofs.Lines.{moves_told, stops_after, texts_after}
use Rattle.dap_requests.proofs.console.ask.Goals as goal

pub returns-then-has_moved-clause-done : goal.returns-then-has_moved-clause-done
returns-then-has_moved-clause-done c = λ done. c.stop.ensures.done (c.show_reply.ensures.done done)

pub returns-then-has_moved-clause-does : goal.returns-then-has_moved-clause-does
returns-then-has_moved-clause-does c =
    moves_told c.args.desk.now c.asked-reply.new.desk c.args.branch c.args.command.now c.args.answer.now c.stop.new.answer true c.asked-reply.result
    c.args.memo.now.seen.items c.clear.new.self.items (sym c.if-has_moved.true ∙ c.has_moved.ensures) c.asked-reply.ensures.answers
    (stops_after c.args.answer.now c.show_reply.new.answer c.stop.new.answer Stop.Stepped c.args.branch c.show_reply.ensures.quiet
    c.show_reply.ensures.lacks c.show_reply.ensures.done c.stop.ensures) c.clear.ensures.items

pub returns-clause-does : goal.returns-clause-does
returns-clause-does c =
    moves_told c.args.desk.now c.asked-reply.new.desk c.args.branch c.args.command.now c.args.answer.now c.tell_set.new.answer false c.asked-reply.result
    c.args.memo.now.seen.items c.args.memo.now.seen.items (sym c.if-has_moved.false ∙ c.has_moved.ensures) c.asked-reply.ensures.answers
    (texts_after c.args.answer.now c.show_reply.new.answer c.tell_set.new.answer c.show_reply.ensures.quiet c.show_reply.ensures.lacks
    c.tell_set.ensures.texts) refl
