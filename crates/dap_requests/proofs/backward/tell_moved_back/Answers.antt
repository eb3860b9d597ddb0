use Rattle.std.proofs.Common.{◌∙◌, ap, refl, sym, subst}
use Rattle.locked_execution.specs.declared.command.Reply.{Reply}
use Rattle.dap_moves.specs.declared.back.Back.{Back}
use Rattle.dap_requests.specs.Back.{SeenBehind}
use Rattle.dap_requests.proofs.Forward.{told_back}
use Rattle.dap_requests.proofs.backward.tell_moved_back.Goals as goal

pub tell_back-requires : goal.tell_back-requires
tell_back-requires c = λ u is.
    c.requires c.in-Asked.ticket u (c.in-Asked.is ∙ ap (λ (r : Reply). Back.Asked c.in-Asked.ticket r) is)

pub returns-in-AtBeginning-clause-seen : goal.returns-in-AtBeginning-clause-seen
returns-in-AtBeginning-clause-seen c =
    let before = c.args.memo.now.seen.items in
    subst (λ (m : Back). SeenBehind m before before) (sym c.in-AtBeginning.is) refl

pub returns-in-AtBeginning-clause-stops : goal.returns-in-AtBeginning-clause-stops
returns-in-AtBeginning-clause-stops c =
    told_back c.args.program.now.excepts c.args.machine.now c.args.answer.now c.stop.new.answer c.args.branch Back.AtBeginning c.args.moved.now
    c.in-AtBeginning.is (c.args.branch, c.stop.ensures, refl)

pub returns-in-Asked-clause-seen : goal.returns-in-Asked-clause-seen
returns-in-Asked-clause-seen c =
    subst (λ (m : Back). SeenBehind m c.args.memo.now.seen.items c.tell_back.new.memo.seen.items) (sym c.in-Asked.is) c.tell_back.ensures.seen

pub returns-in-Asked-clause-stops : goal.returns-in-Asked-clause-stops
returns-in-Asked-clause-stops c =
    told_back c.args.program.now.excepts c.args.machine.now c.args.answer.now c.tell_back.new.answer c.args.branch
    (Back.Asked c.in-Asked.ticket c.in-Asked.reply) c.args.moved.now c.in-Asked.is c.tell_back.ensures.stops
