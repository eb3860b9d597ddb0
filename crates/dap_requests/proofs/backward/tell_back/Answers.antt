use Rattle.std.proofs.Common.{◌∙◌, sym, subst, ap}
use Rattle.runs.specs.declared.command.Refusal.{Refusal}
use Rattle.locked_execution.specs.declared.command.Reply.{Reply}
use Rattle.dap_messages.specs.declared.told.Stop.{Stop}
use Rattle.dap_moves.specs.declared.back.Back.{Back}
use Rattle.dap_requests.specs.Back.{SeenBehind}
use Rattle.dap_requests.specs.Forth.{stop_of}
use Rattle.dap_requests.proofs.Forward.{seen_cleared, stands_done, stop_other, tells_as, told_back, undone_other}
use Rattle.dap_requests.proofs.backward.tell_back.Goals as goal

pub tell_kept-requires : goal.tell_kept-requires
tell_kept-requires c = λ u is. c.requires u (c.in-Refused.is ∙ ap (λ (w : Refusal). Reply.Refused w) is)

pub returns-in-Refused-clause-seen : goal.returns-in-Refused-clause-seen
returns-in-Refused-clause-seen c =
    subst (λ (r : Reply). SeenBehind (Back.Asked c.args.ticket r) c.args.memo.now.seen.items c.tell_kept.new.memo.seen.items)
    (sym c.in-Refused.is) (ap (λ v. v.items) c.tell_kept.ensures.seen)

pub returns-in-Refused-clause-stops : goal.returns-in-Refused-clause-stops
returns-in-Refused-clause-stops c =
    told_back c.args.program.now.excepts c.args.machine.now c.args.answer.now c.tell_kept.new.answer c.args.branch
    (Back.Asked c.args.ticket (Reply.Refused c.in-Refused.why)) (Back.Asked c.args.ticket c.args.reply.now)
    (ap (λ (r : Reply). Back.Asked c.args.ticket r) c.in-Refused.is) c.tell_kept.ensures.stops

pub returns-in-Undone-clause-seen : goal.returns-in-Undone-clause-seen
returns-in-Undone-clause-seen c =
    subst (λ (r : Reply). SeenBehind (Back.Asked c.args.ticket r) c.args.memo.now.seen.items c.clear.new.self.items)
    (sym c.in-Undone.is) c.clear.ensures.items

pub returns-in-Undone-clause-stops : goal.returns-in-Undone-clause-stops
returns-in-Undone-clause-stops c =
    let other = undone_other c.args.reply.now _ _ c.in-Undone.is in (
      c.args.branch,
      tells_as c.args.answer.now c.tell_undone.new.answer Stop.Stepped (stop_of c.args.program.now.excepts c.args.reply.now) c.args.branch
          (sym (stop_other c.args.program.now.excepts c.args.reply.now other)) c.tell_undone.ensures,
      stands_done c.args.machine.now c.args.branch c.args.ticket c.args.reply.now other,
    )

pub returns-in_default-clause-seen : goal.returns-in_default-clause-seen
returns-in_default-clause-seen c =
    seen_cleared c.args.ticket c.args.reply.now c.args.memo.now.seen.items c.clear-in_default.new.self.items c.in_default.not-Refused
    c.clear-in_default.ensures.items

pub returns-in_default-clause-stops : goal.returns-in_default-clause-stops
returns-in_default-clause-stops c = (
  c.args.branch,
  tells_as c.args.answer.now c.stop.new.answer Stop.Stepped (stop_of c.args.program.now.excepts c.args.reply.now) c.args.branch
      (sym (stop_other c.args.program.now.excepts c.args.reply.now c.in_default.not-Refused)) c.stop.ensures,
  stands_done c.args.machine.now c.args.branch c.args.ticket c.args.reply.now c.in_default.not-Refused,
)
